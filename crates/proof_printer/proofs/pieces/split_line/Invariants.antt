use Rattle.std.proofs.Common.{take}
use Rattle.proof_log.specs.Writable.{HasNoLineFeed}
use Rattle.proof_printer.proofs.pieces.split_line.Given as goal

abbrev pub invariant-loop-at : goal.invariant-loop-at
invariant-loop-at l = HasNoLineFeed (take l.at l.bytes)
