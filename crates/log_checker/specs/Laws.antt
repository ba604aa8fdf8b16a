-- What the logs of a program prove of it.
use Rattle.std.specs.Prelude.{◌≡◌, ◌↔◌, ℕ, ◌^◌, ◌<◌, ℤ, List, [], ◌∷◌, ◌++◌}
use Rattle.geo_points.specs.Placements.{Placement, SamePlacement}
use Rattle.geo_poly.specs.declared.variables.Var.{Var}
use Rattle.geo_program.specs.WellFormed.{IsWellFormed, Source}
use Rattle.geo_lowering.specs.Counting.{numbers_had, points_named}
use Rattle.geo_conditions.specs.Truth.{Breaks, HasValues, Holds, IsImpossible, IsTrueProgram, Meets, ProgramValues}
use Rattle.proof_log.specs.declared.log.Line.{Line}
use Rattle.proof_log.specs.declared.log.Line.TheVariants.{Sample, Verdict as VerdictLine}
use Rattle.proof_log.specs.declared.log.Verdict.{Verdict}
use Rattle.proof_log.specs.declared.log.Verdict.TheVariants.{Proved, False, Impossible}
use Rattle.geo_logs.specs.Ends.{Ending, IsDefinedLog, ends_with}
use Rattle.geo_logs.specs.Laws.{HasSample}
use Rattle.elim_apply.specs.LemmaTable.{lemma_table}
use Rattle.geo_logs.specs.Logs.{IsAccepted, Subject}
use Rattle.log_checker.specs.Subjects.{AreSampleValues, IsSubjectOf}
use Rattle.log_checker.specs.VerdictNumbers.{FailsAt, HoldsNowhere}

-- the lines are a log of the well-formed program that is accepted with this verdict, within so many steps
pub record IsAcceptedLog (p : Source) (steps : ℕ) (lines : List Line) (verdict : Verdict) : Type 0 where
  pub well_formed : IsWellFormed p
  pub subject : Subject
  pub about : IsSubjectOf p subject
  pub left : ℕ
  pub accepted : IsAccepted lemma_table subject steps lines verdict left

-- THE UNIVERSAL HALF
-- what a verdict says of all placements that meet the program
abbrev pub SaysOfAll : Source → Verdict → Type 0
SaysOfAll p Proved = (placed : Placement) → Meets p placed → Holds p placed
SaysOfAll p (False g) = Unit {0}
SaysOfAll p (Impossible k) = IsImpossible p

abbrev pub AcceptedVerdictsHold : Type 0
AcceptedVerdictsHold =
    (p : Source) (steps : ℕ) (lines : List Line) (verdict : Verdict) → IsAcceptedLog p steps lines verdict → SaysOfAll p verdict

-- THE EXISTENCE HALF
-- some placement with these values meets the program, and every two such placements are the same
pub record IsRealised (p : Source) (v : ProgramValues) : Type 0 where
  pub placed : Placement
  pub has : HasValues p placed v
  pub meets : Meets p placed
  pub unique : (one other : Placement) → HasValues p one v → Meets p one → HasValues p other v → Meets p other
      → SamePlacement (points_named p.commands) (numbers_had p.commands) one other

-- the lines end with the verdict, and before it with a sample whose integers are these values
pub record EndsWithValues (lines : List Line) (verdict : Verdict) (v : ProgramValues) : Type 0 where
  pub before : List Line
  pub sample : List (Var × ℤ)
  pub split : lines ≡ before ++ Sample sample ∷ VerdictLine verdict ∷ []
  pub printed : AreSampleValues sample v

abbrev pub AcceptedSamplesAreMet : Type 0
AcceptedSamplesAreMet =
    (p : Source) (steps : ℕ) (lines : List Line) (verdict : Verdict) → IsAcceptedLog p steps lines verdict → HasSample verdict
    → (v : ProgramValues) × EndsWithValues lines verdict v × IsRealised p v

-- THE THREE VERDICTS
-- a log that is accepted with Proved names a true program
abbrev pub ProvedIsTrue : Type 0
ProvedIsTrue = (p : Source) (steps : ℕ) (lines : List Line) → IsAcceptedLog p steps lines Proved → IsTrueProgram p

-- one that is accepted with False names a program that the integers of its sample break, and its first goal that fails there
abbrev pub FalseBreaks : Type 0
FalseBreaks =
    (p : Source) (steps g : ℕ) (lines : List Line) → IsAcceptedLog p steps lines (False g)
    → (v : ProgramValues) × EndsWithValues lines (False g) v × Breaks p v × FailsAt p v g

-- one that is accepted with Impossible names a program that no placement meets, and its condition that holds nowhere
abbrev pub ImpossibleIsNeverMet : Type 0
ImpossibleIsNeverMet =
    (p : Source) (steps k : ℕ) (lines : List Line) → IsAcceptedLog p steps lines (Impossible k) → IsImpossible p × HoldsNowhere p k

-- DECISION
-- the statement does not hold in some placement that meets the program
pub record IsRefuted (p : Source) : Type 0 where
  pub placed : Placement
  pub meets : Meets p placed
  pub fails : Holds p placed → ⊥

-- what a verdict means for the program
abbrev pub Means : Source → Verdict → Type 0
Means p Proved = IsTrueProgram p
Means p (False g) = IsRefuted p
Means p (Impossible k) = IsImpossible p

-- a program is not two of these: true, refuted, impossible
pub record MeaningsExclude : Type 0 where
  pub true_or_refuted : (p : Source) → IsTrueProgram p → IsRefuted p → ⊥
  pub true_or_impossible : (p : Source) → IsTrueProgram p → IsImpossible p → ⊥
  pub refuted_or_impossible : (p : Source) → IsRefuted p → IsImpossible p → ⊥

-- the verdict is the one of the three that holds of the program
pub record IsDecided (p : Source) (verdict : Verdict) : Type 0 where
  pub proved : (verdict ≡ Proved) ↔ IsTrueProgram p
  pub refuted : ((g : ℕ) × (verdict ≡ False g)) ↔ IsRefuted p
  pub impossible : ((k : ℕ) × (verdict ≡ Impossible k)) ↔ IsImpossible p

-- the prover's list that ends with a verdict is an accepted log with this verdict
abbrev pub DefinedLogsAreAccepted : Type 0
DefinedLogsAreAccepted =
    (p : Source) (subject : Subject) (steps left : ℕ) (lines : List Line) (verdict : Verdict) → IsWellFormed p → IsSubjectOf p subject
    → steps < 2 ^ 127
    → IsDefinedLog lemma_table subject steps lines (ends_with verdict left) → IsAcceptedLog p steps lines verdict

-- where the prover's list of lines ends with a verdict, this decides
abbrev pub DefinedVerdictsDecide : Type 0
DefinedVerdictsDecide =
    (p : Source) (subject : Subject) (steps left : ℕ) (lines : List Line) (verdict : Verdict) → IsWellFormed p → IsSubjectOf p subject
    → steps < 2 ^ 127
    → IsDefinedLog lemma_table subject steps lines (ends_with verdict left) → IsDecided p verdict

-- THE DEFINED LIST
-- each program has a defined list with an end, for each number of steps
abbrev pub DefinedLogExists : Type 0
DefinedLogExists =
    (p : Source) (subject : Subject) (steps : ℕ) → IsWellFormed p → IsSubjectOf p subject → (lines : List Line) × (ending : Ending)
    × IsDefinedLog lemma_table subject steps lines ending
