-- What the call `fixed` answers: how a program's log in the fixed frame ends.
use Rattle.std.specs.Prelude.{◌≡◌, ℕ, suc, List, length}
use Rattle.geo_program.specs.WellFormed.{Source}
use Rattle.proof_log.specs.declared.log.Line.{Line}
use Rattle.proof_log.specs.declared.log.Verdict.{Verdict}
use Rattle.elim_apply.specs.LemmaTable.{lemma_table}
use Rattle.geo_logs.specs.Ends.{ends_by, ends_with}
use Rattle.geo_logs.specs.Logs.{Subject}
use Rattle.geo_logs.specs.Moves.{Stop}
use Rattle.log_checker.specs.Subjects.{IsSubjectOf}
use Rattle.geo_chain.specs.FixedLogs.{IsFixedLog}

-- it ends with this verdict
pub record EndsWithVerdict (p : Source) (steps : ℕ) (verdict : Verdict) : Type 0 where
  pub subject : Subject
  pub about : IsSubjectOf p subject
  pub version : subject.version ≡ 2
  pub lines : List Line
  pub left : ℕ
  pub log : IsFixedLog lemma_table subject steps lines (ends_with verdict left)

-- it is stopped at the line of this number
pub record StopsAtLine (p : Source) (steps : ℕ) (stop : Stop) (number : ℕ) : Type 0 where
  pub subject : Subject
  pub about : IsSubjectOf p subject
  pub version : subject.version ≡ 2
  pub lines : List Line
  pub log : IsFixedLog lemma_table subject steps lines (ends_by stop)
  pub last : number ≡ suc (length lines)
