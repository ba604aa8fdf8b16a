use Rattle.std.proofs.Common.{arith}
use Rattle.poly_arena.proofs.Releasing.{ends-few, ends-last, ends-start, ends-step}
use Rattle.poly_arena.proofs.nodes.end_of.Goals as goal

pub loop-last-init : goal.loop-last-init
loop-last-init c = ends-start c.args.nodes.now c.args.first c.requires.path

pub overflow_add-count : goal.overflow_add-count
overflow_add-count c = omega (arith, c.requires.few, ends-few c.loop-last.invariant)

pub loop-last-smaller : goal.loop-last-smaller
loop-last-smaller c =
    omega (arith, ends-few (ends-step c.args.nodes.now c.args.first c.loop-last.last c.loop-last.count c.in-Some.i c.in-Some.is c.loop-last.invariant))

pub loop-last-preserved : goal.loop-last-preserved
loop-last-preserved c = ends-step c.args.nodes.now c.args.first c.loop-last.last c.loop-last.count c.in-Some.i c.in-Some.is c.loop-last.invariant

pub returns-clause-last : goal.returns-clause-last
returns-clause-last c = (ends-last c.args.nodes.now c.args.first c.loop-last.last c.loop-last.count c.in_default.is c.loop-last.invariant).0

pub returns-clause-count : goal.returns-clause-count
returns-clause-count c = (ends-last c.args.nodes.now c.args.first c.loop-last.last c.loop-last.count c.in_default.is c.loop-last.invariant).1
