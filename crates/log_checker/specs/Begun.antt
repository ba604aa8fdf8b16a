-- Lines that begin the prover's log of a program.
use Rattle.std.specs.Prelude.{ℕ, ◌^◌, ◌<◌, ◌≤◌, ◌⊎◌, List, [], ◌∷◌, ◌++◌}
use Rattle.geo_program.specs.WellFormed.{IsWellFormed, Source}
use Rattle.proof_log.specs.declared.log.Line.{Line}
use Rattle.proof_log.specs.declared.log.Verdict.{Verdict}
use Rattle.proof_log.specs.Lines.{log_text}
use Rattle.proof_log.specs.Writable.{AllWritable, IsWritable}
use Rattle.elim_apply.specs.LemmaTable.{lemma_table}
use Rattle.geo_logs.specs.Defined.{IsDefinedChain, IsLogOfProver, LeadsBySteps}
use Rattle.geo_logs.specs.Ends.{Ending, IsDefinedLog, IsNext, comes, ends_with, text_length}
use Rattle.geo_logs.specs.Logs.{Subject}
use Rattle.geo_logs.specs.Places.{IsBegun, Place}
use Rattle.geo_logs.specs.Samples.{IsLeastSample}
use Rattle.log_checker.specs.Accepted.{Accepts}
use Rattle.log_checker.specs.Subjects.{IsSubjectOf}

-- the lines begin the prover's log of the subject, which stands at the place after them
abbrev pub IsBegunByProver : Subject → ℕ → List Line → Place → Type 0
IsBegunByProver subject steps lines place =
    let c = subject.construction in
    IsBegun (LeadsBySteps lemma_table c) (IsDefinedChain lemma_table c) (IsLeastSample c) subject steps lines place

-- the lines are a beginning of a defined log of the subject
abbrev pub BeginsDefinedLog : Subject → ℕ → List Line → Type 0
BeginsDefinedLog subject steps lines =
    (rest : List Line) × (ending : Ending) × IsDefinedLog lemma_table subject steps (lines ++ rest) ending

-- how the prover's log of a program goes on
pub record BeginningsGoOn : Type 0 where
  -- lines that begin it, within the limit of its text, are a beginning of a defined log
  pub begun : (p : Source) (subject : Subject) (steps : ℕ) (lines : List Line) (place : Place) → IsWellFormed p → IsSubjectOf p subject
      → IsBegunByProver subject steps lines place → text_length lines ≤ 67108864 → BeginsDefinedLog subject steps lines
  -- with a line that comes next they begin it too, or they are all of it
  pub longer : (subject : Subject) (steps : ℕ) (lines : List Line) (place : Place) (line : Line) → IsBegunByProver subject steps lines place
      → IsNext lemma_table subject.construction place (comes line)
      → ((place' : Place) × IsBegunByProver subject steps (lines ++ line ∷ []) place')
      ⊎ ((verdict : Verdict) × (left : ℕ) × IsLogOfProver lemma_table subject steps (lines ++ line ∷ []) verdict left)
  -- so where the text with this line is within the limit, they are a beginning of a defined log
  pub next : (p : Source) (subject : Subject) (steps : ℕ) (lines : List Line) (place : Place) (line : Line) → IsWellFormed p
      → IsSubjectOf p subject → IsBegunByProver subject steps lines place → IsNext lemma_table subject.construction place (comes line)
      → text_length (lines ++ line ∷ []) ≤ 67108864 → BeginsDefinedLog subject steps (lines ++ line ∷ [])

-- WRITING
-- a line that comes next in the prover's log, within the limit of its text, may be written
abbrev pub NextLinesAreWritable : Type 0
NextLinesAreWritable =
    (p : Source) (subject : Subject) (steps : ℕ) (lines : List Line) (place : Place) (line : Line) → IsWellFormed p → IsSubjectOf p subject
    → steps < 2 ^ 127 → IsBegunByProver subject steps lines place → text_length lines ≤ 67108864
    → IsNext lemma_table subject.construction place (comes line) → IsWritable line

-- so each line of a defined log may be written
abbrev pub DefinedLogsAreWritable : Type 0
DefinedLogsAreWritable =
    (p : Source) (subject : Subject) (steps : ℕ) (lines : List Line) (ending : Ending) → IsWellFormed p → IsSubjectOf p subject
    → steps < 2 ^ 127 → IsDefinedLog lemma_table subject steps lines ending → AllWritable lines

-- BYTES
-- the text of a defined log that ends with a verdict is accepted with it
abbrev pub DefinedBytesAreAccepted : Type 0
DefinedBytesAreAccepted =
    (p : Source) (subject : Subject) (steps left : ℕ) (lines : List Line) (verdict : Verdict) → IsWellFormed p → IsSubjectOf p subject
    → steps < 2 ^ 127 → IsDefinedLog lemma_table subject steps lines (ends_with verdict left) → Accepts (log_text lines) steps p verdict
