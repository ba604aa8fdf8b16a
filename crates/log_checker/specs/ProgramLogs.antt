-- The defined log of a program.
use Rattle.std.specs.Prelude.{◌≡◌, ℕ, List}
use Rattle.geo_program.specs.WellFormed.{Source}
use Rattle.proof_log.specs.declared.log.Line.{Line}
use Rattle.elim_apply.specs.LemmaTable.{lemma_table}
use Rattle.geo_logs.specs.Ends.{Ending, IsDefinedLog}
use Rattle.geo_logs.specs.Logs.{Subject}
use Rattle.log_checker.specs.Subjects.{IsSubjectOf}

-- the lines are the program's defined log with so many steps, which has version 2, and it ends so
pub record IsLogOf (p : Source) (steps : ℕ) (lines : List Line) (ending : Ending) : Type 0 where
  pub subject : Subject
  pub about : IsSubjectOf p subject
  pub version : subject.version ≡ 2
  pub defined : IsDefinedLog lemma_table subject steps lines ending
