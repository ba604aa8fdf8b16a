use Rattle.std.proofs.Common.{Contains}
use Rattle.log_checker.proofs.KeysInTurn.{KeysBelow}
use Rattle.log_checker.proofs.cutting.is_by_known.Given as goal

abbrev pub invariant-loop-j : goal.invariant-loop-j
invariant-loop-j l = KeysBelow (λ v. Contains l.known v) l.j l.by.0
