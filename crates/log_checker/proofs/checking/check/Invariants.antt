use Rattle.std.proofs.Common.{length}
use Rattle.log_checker.proofs.CheckerSteps.{IsTaken}
use Rattle.log_checker.proofs.checking.check.Given as goal

abbrev pub invariant-loop-at : goal.invariant-loop-at
invariant-loop-at l = IsTaken l.bytes l.steps l.checker l.rest

abbrev pub decreases-loop-at : goal.decreases-loop-at
decreases-loop-at l = length l.rest
