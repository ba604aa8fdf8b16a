-- A log that is judged, and the text that tells the judgement.
use Rattle.std.specs.Prelude.{ℕ, List, [], ◌∷◌, ◌++◌, Option, Result, IfErr, IfOk}
use Rattle.geo_cli.specs.Due.{rejected_line}
use Rattle.geo_cli.specs.Input.{IsInput, log_limit}
use Rattle.log_checker.specs.Checked.{IsAnswer, TellsStop}
use Rattle.log_checker.specs.Judged.{Refuses}
use Rattle.log_checker.specs.declared.accepted.Accepted.{Accepted}
use Rattle.log_checker.specs.declared.errors.CheckError.{CheckError}
use Rattle.log_checker.specs.declared.errors.CheckError.TheVariants as error
use Rattle.proof_log.specs.declared.log.Line.TheVariants.{StopSpent, StopTooLarge}
use Rattle.proof_log.specs.Lines.{line_text}

-- the answer tells that the bytes are accepted, or that they are refused
abbrev pub IsJudgement : List ℕ → ℕ → Result Accepted CheckError → Type 0
IsJudgement bytes steps answer = IfOk answer (IsAnswer bytes steps) × IfErr answer (TellsStop (Refuses bytes steps))

-- a log was read to its end, and this is the answer
pub record IsJudgedInput (steps : ℕ) (left left' : Option (List ℕ)) (answer : Result Accepted CheckError) : Type 0 where
  pub bytes : List ℕ
  pub input : IsInput log_limit left bytes left'
  pub judged : IsJudgement bytes steps answer

-- REFUSALS
-- the line that tells why a log is refused; want of memory has none
abbrev pub error_line : CheckError → List ℕ
error_line (error.Rejected line reason) = rejected_line line reason
error_line (error.TooLarge line which) = line_text (StopTooLarge line which) ++ 10 ∷ []
error_line (error.Spent line) = line_text (StopSpent line) ++ 10 ∷ []
error_line error.NoMemory = []

-- the error is no want of memory
abbrev pub IsRefusal : CheckError → Type 0
IsRefusal error.NoMemory = ⊥
IsRefusal _ = Unit {0}
