use Rattle.std.proofs.Common.{length, arith}
use Rattle.poly_arena.proofs.Paths.{walk-length}
use Rattle.poly_arena.proofs.Updating.{path-behind, path-first}
use Rattle.poly_arena.proofs.nodes.chain_length.Goals as goal

pub bounds-nodes-i : goal.bounds-nodes-i
bounds-nodes-i c = path-first c.args.nodes.now c.loop-place.place c.in-Some.i c.in-Some.is c.loop-place.invariant.path

pub overflow_add-count : goal.overflow_add-count
overflow_add-count c = omega (arith, c.requires.few, walk-length (length c.args.nodes.now) c.args.nodes.now c.args.first, c.loop-place.invariant.whole)

pub loop-place-smaller : goal.loop-place-smaller
loop-place-smaller c =
    omega (arith, (path-behind c.args.nodes.now c.loop-place.place c.in-Some.i c.in-Some.is c.loop-place.invariant.path).count)

pub loop-place-preserved : goal.loop-place-preserved
loop-place-preserved c =
    let behind = path-behind c.args.nodes.now c.loop-place.place c.in-Some.i c.in-Some.is c.loop-place.invariant.path in
    record { path = behind.path; whole = omega (arith, behind.count, c.loop-place.invariant.whole) }
