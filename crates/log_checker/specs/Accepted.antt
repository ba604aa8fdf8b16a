-- Accepted logs as bytes, and what each program has: a subject and a defined log.
use Rattle.std.specs.Prelude.{◌≡◌, ℕ, ◌≤◌, ℤ, IfSome, codes, List, [], ◌∷◌, ◌++◌, length}
use Rattle.std.specs.List.{AllByRecursion, flat_map}
use Rattle.geo_program.specs.CanonicalText.{canonical_text}
use Rattle.geo_program.specs.Spelling.{SameSource}
use Rattle.geo_program.specs.WellFormed.{IsWellFormed, Source}
use Rattle.geo_lowering.specs.declared.version.Version.{Version}
use Rattle.geo_conditions.specs.Truth.{Breaks, IsImpossible, IsTrueProgram, ProgramValues}
use Rattle.geo_poly.specs.declared.variables.Var.{Var}
use Rattle.proof_log.specs.declared.log.Line.{Line}
use Rattle.proof_log.specs.declared.log.Verdict.{Verdict}
use Rattle.proof_log.specs.declared.log.Verdict.TheVariants.{Proved, False, Impossible}
use Rattle.proof_log.specs.Lines.{log_text, value_text, verdict_text}
use Rattle.proof_log.specs.Steps.{polynomial_on}
use Rattle.proof_log.specs.Writable.{AllWritable, CanWritePolynomial}
use Rattle.elim_apply.specs.LemmaTable.{lemma_table}
use Rattle.geo_logs.specs.Ends.{Ending, IsDefinedLog}
use Rattle.geo_logs.specs.Logs.{IsAccepted, Subject}
use Rattle.log_checker.specs.Laws.{IsAcceptedLog, IsRealised}
use Rattle.log_checker.specs.Subjects.{AreSampleValues, IsSubjectOf, source_lines, version_number}
use Rattle.log_checker.specs.VerdictNumbers.{FailsAt, HoldsNowhere}

-- BYTES
-- the bytes are a log of the well-formed program that is accepted with this verdict, within so many steps: the text of lines that may be
-- written
pub record Accepts (bytes : List ℕ) (steps : ℕ) (p : Source) (verdict : Verdict) : Type 0 where
  pub lines : List Line
  pub writable : AllWritable lines
  pub written : bytes ≡ log_text lines
  pub accepted : IsAcceptedLog p steps lines verdict

-- the last two lines of the bytes are a sample whose integers are these values, and the verdict
pub record PrintsValues (bytes : List ℕ) (verdict : Verdict) (v : ProgramValues) : Type 0 where
  pub before : List ℕ
  pub sample : List (Var × ℤ)
  pub split :
      bytes ≡ before ++ 10 ∷ codes "sample" ++ flat_map value_text sample ++ 10 ∷ codes "verdict " ++ verdict_text verdict ++ 10 ∷ []
  pub printed : AreSampleValues sample v

-- what accepted bytes with this verdict say of their program. Proved: it is true, and the placement with the printed integers meets it.
-- False: the printed integers break it, and the goal with this number is the first that fails there. Impossible: no placement meets it, and
-- the condition with this number holds in none that meets what stands before it
abbrev pub BytesMean : List ℕ → Source → Verdict → Type 0
BytesMean bytes p Proved = IsTrueProgram p × ((v : ProgramValues) × PrintsValues bytes Proved v × IsRealised p v)
BytesMean bytes p (False g) = (v : ProgramValues) × PrintsValues bytes (False g) v × IsRealised p v × Breaks p v × FailsAt p v g
BytesMean bytes p (Impossible k) = IsImpossible p × HoldsNowhere p k

-- accepted bytes mean what they say, whoever wrote them
abbrev pub AcceptedBytesMean : Type 0
AcceptedBytesMean =
    (bytes : List ℕ) (steps : ℕ) (p : Source) (verdict : Verdict) → Accepts bytes steps p verdict → BytesMean bytes p verdict

-- accepted bytes are a log of one program, with one verdict and by one version, whatever the steps
abbrev pub AcceptedBytesTellPrograms : Type 0
AcceptedBytesTellPrograms =
    (bytes : List ℕ) (steps steps' : ℕ) (p q : Source) (verdict verdict' : Verdict) (one : Accepts bytes steps p verdict)
    (other : Accepts bytes steps' q verdict')
    → SameSource p q × (verdict ≡ verdict') × (one.accepted.subject.version ≡ other.accepted.subject.version)

-- WHAT EACH PROGRAM HAS
-- the program is well-formed, and its canonical text has at most 268,435,456 bytes
pub record IsShortProgram (p : Source) : Type 0 where
  pub well_formed : IsWellFormed p
  pub short : length (canonical_text p) ≤ 268435456

-- each such program has a subject for logs of each version
abbrev pub ProgramsHaveSubjects : Type 0
ProgramsHaveSubjects =
    (version : Version) (p : Source) → IsShortProgram p
    → (subject : Subject) × IsSubjectOf p subject × (subject.version ≡ version_number version)

-- and a defined log of each version, for each number of steps
abbrev pub ProgramsHaveDefinedLogs : Type 0
ProgramsHaveDefinedLogs =
    (version : Version) (p : Source) (steps : ℕ) → IsShortProgram p
    → (subject : Subject) × IsSubjectOf p subject × (subject.version ≡ version_number version)
    × ((lines : List Line) × (ending : Ending) × IsDefinedLog lemma_table subject steps lines ending)

-- ONE SUBJECT FOR ALL
-- subjects of one version, of programs with the same lines, have the same accepted logs and the same defined logs; so have two subjects of
-- one version of one program
pub record SubjectsAgree : Type 0 where
  pub accepted : (p q : Source) (one other : Subject) → IsWellFormed p → IsWellFormed q → source_lines p ≡ source_lines q
      → IsSubjectOf p one → IsSubjectOf q other → one.version ≡ other.version
      → (steps left : ℕ) (lines : List Line) (verdict : Verdict) → IsAccepted lemma_table one steps lines verdict left
      → IsAccepted lemma_table other steps lines verdict left
  pub defined : (p q : Source) (one other : Subject) → IsWellFormed p → IsWellFormed q → source_lines p ≡ source_lines q → IsSubjectOf p one
      → IsSubjectOf q other → one.version ≡ other.version
      → (steps : ℕ) (lines : List Line) (ending : Ending) → IsDefinedLog lemma_table one steps lines ending
      → IsDefinedLog lemma_table other steps lines ending

-- WRITING
-- the polynomial of the line, where it has one, can be written
abbrev pub HasWritablePolynomial : Line → Type 0
HasWritablePolynomial line = IfSome (polynomial_on line) CanWritePolynomial

-- so it is of each line of an accepted log
abbrev pub AcceptedPolynomialsAreWritable : Type 0
AcceptedPolynomialsAreWritable =
    (p : Source) (steps : ℕ) (lines : List Line) (verdict : Verdict) → IsAcceptedLog p steps lines verdict
    → AllByRecursion HasWritablePolynomial lines
