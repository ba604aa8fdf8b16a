-- What is answered of bytes and of their lines: an accepted log, or its first stop.
use Rattle.std.specs.Prelude.{◌≡◌, ℕ, ◌+◌, Option, List, [], ◌∷◌, ◌++◌, length}
use Rattle.geo_program.specs.Programs.{source_of}
use Rattle.proof_log.specs.declared.log.Line.{Line}
use Rattle.proof_log.specs.Writable.{HasNoLineFeed}
use Rattle.geo_logs.specs.Judging.{Reason, Refusal, number_of, rejected, stopped}
use Rattle.geo_logs.specs.Moves.{spent, too_large}
use Rattle.log_checker.specs.Accepted.{Accepts}
use Rattle.log_checker.specs.Checkers.{CheckerValue, StandsFor}
use Rattle.log_checker.specs.Judged.{IsFirstStop, IsRead}
use Rattle.log_checker.specs.declared.accepted.Accepted.{Accepted}
use Rattle.log_checker.specs.declared.errors.CheckError.{CheckError}
use Rattle.log_checker.specs.declared.errors.CheckError.TheVariants as error

-- ACCEPTED LOGS
-- the answer tells the program, the verdict, the version, the number of lines and the summed charges of the accepted log
pub record IsAnswer (bytes : List ℕ) (steps : ℕ) (answer : Accepted) : Type 0 where
  pub accepts : Accepts bytes steps (source_of answer.program) answer.verdict
  pub version : answer.version ≡ accepts.accepted.subject.version
  pub counted : answer.lines ≡ length accepts.lines
  pub charged : answer.charge + accepts.accepted.left ≡ steps

-- STOPS
-- this is read of each piece, none of which has a line feed
abbrev pub AreEachRead : List (List ℕ) → List (Option Line) → Type 0
AreEachRead [] [] = Unit {0}
AreEachRead (piece ∷ pieces) (read ∷ reads) = HasNoLineFeed piece × IsRead piece read × AreEachRead pieces reads
AreEachRead _ _ = ⊥

-- judging these pieces as lines meets this stop at the line of this number, whatever follows them
pub record StopsAt (steps : ℕ) (pieces : List (List ℕ)) (number : ℕ) (refusal : Refusal) : Type 0 where
  pub reads : List (Option Line)
  pub are_read : AreEachRead pieces reads
  pub stops : (more : List (Option Line)) → IsFirstStop steps (reads ++ more) number refusal

-- the error tells such a stop; want of memory tells nothing
abbrev pub TellsStop : (ℕ → Refusal → Type 0) → CheckError → Type 0
TellsStop Stops (error.Rejected line reason) = (r : Reason) × (reason ≡ number_of r) × Stops line (rejected r)
TellsStop Stops (error.TooLarge line which) = Stops line (stopped (too_large which))
TellsStop Stops (error.Spent line) = Stops line (stopped spent)
TellsStop Stops error.NoMemory = Unit {0}

-- LAWS
-- where a checker stands for pieces, judging them meets no stop
abbrev pub CheckersMeetNoStop : Type 0
CheckersMeetNoStop =
    (checker : CheckerValue) (pieces : List (List ℕ)) (number : ℕ) (refusal : Refusal) → StandsFor checker pieces
    → StopsAt checker.steps pieces number refusal → ⊥
