use Rattle.proof_printer.proofs.Listed.{lines_all}
use Rattle.proof_printer.proofs.acceptance.push_conditions.Goals as goal

pub returns : goal.returns
returns c = lines_all c.args.items.now c.loop-i.i _ _ c.loop-i-test.false c.loop-i.invariant
