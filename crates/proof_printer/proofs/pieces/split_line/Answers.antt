use Rattle.proof_printer.proofs.Lookups.{no_line_feed-next}
use Rattle.proof_printer.proofs.pieces.split_line.Goals as goal

pub loop-at-preserved : goal.loop-at-preserved
loop-at-preserved c = no_line_feed-next c.args.bytes.now c.loop-at.at c.loop-at.invariant c.loop-at-test.true c.if-byte-eq10.false
