-- What the prover writes, and what it answers.
use Rattle.std.specs.Prelude.{◌≡◌, ℕ, ◌+◌, Option, List, length, take}
use Rattle.geo_base.specs.Devices.{Grows}
use Rattle.geo_program.specs.WellFormed.{Source}
use Rattle.proof_log.specs.declared.log.Line.{Line}
use Rattle.proof_log.specs.Lines.{log_text}
use Rattle.geo_logs.specs.Ends.{Ending, ends_by, ends_with}
use Rattle.geo_logs.specs.Moves.{Stop}
use Rattle.log_checker.specs.Accepted.{Accepts}
use Rattle.log_checker.specs.ProgramLogs.{IsLogOf}
use Rattle.geo_prover.specs.declared.summary.Summary.{Summary}

-- the log was written whole: it ends with the verdict that is told, and it is an accepted log of the program; its lines are counted, and
-- the charges are what is not left of the steps
pub record Concludes (p : Source) (steps : ℕ) (held held' : Option (List ℕ)) (summary : Summary) : Type 0 where
  pub lines : List Line
  pub left : ℕ
  pub log : IsLogOf p steps lines (ends_with summary.verdict left)
  pub written : Grows held (log_text lines) held'
  pub accepted : Accepts (log_text lines) steps p summary.verdict
  pub counted : summary.lines ≡ length lines
  pub charged : summary.charge + left ≡ steps

-- the log that ends so was written
pub record WritesLog (p : Source) (steps : ℕ) (held held' : Option (List ℕ)) (ending : Ending) : Type 0 where
  pub lines : List Line
  pub log : IsLogOf p steps lines ending
  pub written : Grows held (log_text lines) held'

-- the log ends by a stop, and was written; its last line, that of the stop, has this number
pub record WritesToStop (p : Source) (steps : ℕ) (held held' : Option (List ℕ)) (stop : Stop) (number : ℕ) : Type 0 where
  pub whole : WritesLog p steps held held' (ends_by stop)
  pub last : number ≡ length whole.lines

-- the first bytes of the log were written
pub record WritesPart (p : Source) (steps : ℕ) (held held' : Option (List ℕ)) : Type 0 where
  pub lines : List Line
  pub ending : Ending
  pub log : IsLogOf p steps lines ending
  pub count : ℕ
  pub written : Grows held (take count (log_text lines)) held'
