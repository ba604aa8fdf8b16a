-- What the code answers of a line, part by part.
use Rattle.std.specs.Prelude.{◌≡◌, ◌≢◌, ℕ, ◌⊎◌, Option, Some, List, [], ◌∷◌, ◌++◌, length}
use Rattle.geo_poly.specs.Polynomials.{Summands}
use Rattle.geo_poly.specs.PolynomialVariables.{AllVariables}
use Rattle.geo_terms.specs.Constructions.{Construction}
use Rattle.geo_program.specs.CanonicalText.{canonical_text}
use Rattle.geo_program.specs.WellFormed.{IsWellFormed, Source}
use Rattle.geo_lowering.specs.declared.version.Version.{Version}
use Rattle.geo_conditions.specs.declared.problem.Problem.{Problem}
use Rattle.geo_conditions.specs.Lists.{IsProblem}
use Rattle.geo_conditions.specs.Problems.{form_of_problem}
use Rattle.proof_log.specs.declared.log.Line.{Line}
use Rattle.elim_apply.specs.LemmaTable.{lemma_table}
use Rattle.geo_logs.specs.Chains.{ChainStep, LeadsTo, line_of}
use Rattle.geo_logs.specs.Judging.{IsAfterVerdict, IsGoodSoFar, IsGoodToEnd, IsRefused, Refusal, rejected, stopped}
use Rattle.geo_logs.specs.Logs.{Subject}
use Rattle.geo_logs.specs.Moves.{spent, too_large}
use Rattle.geo_logs.specs.Naming.{IsNamed}
use Rattle.geo_logs.specs.Places.{Place}
use Rattle.geo_poly.specs.declared.variables.Var.{Var}
use Rattle.log_checker.specs.Checkers.{Head, IsAtWork, IsDue, subject_of}
use Rattle.log_checker.specs.Inner.Stops.{reason_of}
use Rattle.log_checker.specs.declared.due.Due.{Due}
use Rattle.log_checker.specs.declared.evidence.Evidence.{Evidence}
use Rattle.log_checker.specs.declared.reasons.Reason.TheVariants as reason
use Rattle.log_checker.specs.declared.stops.Stop.{Stop}
use Rattle.log_checker.specs.declared.stops.Stop.TheVariants.{Rejected, TooLarge, Spent, NoMemory}
use Rattle.log_checker.specs.declared.work.Work.{Work}

-- the stop is told by a refusal; want of memory tells nothing
abbrev pub Tells : (Refusal → Type 0) → Stop → Type 0
Tells Refuses (Rejected r) = Refuses (rejected (reason_of r))
Tells Refuses (TooLarge which) = Refuses (stopped (too_large which))
Tells Refuses Spent = Refuses (stopped spent)
Tells Refuses NoMemory = Unit {0}

-- the line is refused at the place
abbrev pub RefusesAt : Construction → Place → Line → Stop → Type 0
RefusesAt c place line = Tells (IsRefused lemma_table c place (Some line))

-- the line is that of a step of a chain
pub record IsStepLine (c : Construction) (known : List Var) (left : ℕ) (q : Summands) (line : Line) (left' : ℕ) (r : Summands)
    : Type 0 where
  pub step : ChainStep
  pub leads : LeadsTo lemma_table c known left q (step ∷ []) left' r
  pub is : line ≡ line_of step

-- all that the polynomial names is in the construction
abbrev pub IsNamedBy : Construction → Summands → Type 0
IsNamedBy c q = AllVariables (IsNamed c (length c.steps)) q

-- the problem is that of a program, by some version
pub record IsReady (q : Problem) : Type 0 where
  pub version : Version
  pub program : Source
  pub well_formed : IsWellFormed program
  pub problem : IsProblem version program (form_of_problem q) q.conditions q.goals

-- some lines lead to what is due
abbrev pub IsReached : Problem → Evidence → Due → Type 0
IsReached q e due = (head : Head) × (steps : ℕ) × (good : List Line) × IsDue (subject_of head q) steps e due good

-- behind good lines, or a whole log, the line is refused
abbrev pub IsRefusedAfter : Subject → ℕ → List Line → Option Line → Refusal → Type 0
IsRefusedAfter subject steps good read refusal =
    ((place : Place) × IsGoodSoFar lemma_table subject steps good place × IsRefused lemma_table subject.construction place read refusal)
    ⊎ (IsGoodToEnd lemma_table subject steps good × IsAfterVerdict read refusal)

-- the line leads from what is due to what is due behind it, with what the chains leave before and after
abbrev pub LeadsOn : Problem → Evidence → Due → Line → Evidence → Due → Type 0
LeadsOn q e due line e' due' =
    (head : Head) (steps : ℕ) (good : List Line) → IsDue (subject_of head q) steps e due good
    → IsDue (subject_of head q) steps e' due' (good ++ line ∷ [])

-- the line is refused where this is due
abbrev pub RefusesWhere : Problem → Evidence → Due → Line → Stop → Type 0
RefusesWhere q e due line stop =
    (head : Head) (steps : ℕ) (good : List Line) → IsDue (subject_of head q) steps e due good
    → Tells (IsRefusedAfter (subject_of head q) steps good (Some line)) stop

-- the work goes on with the line, for the same program
pub record GoesOn (w : Work) (line : Line) (w' : Work) : Type 0 where
  pub version : w'.version ≡ w.version
  pub program : w'.program ≡ w.program
  pub problem : w'.problem ≡ w.problem
  pub goes : (steps : ℕ) (good : List Line) → IsAtWork w steps good → IsAtWork w' steps (good ++ line ∷ [])

-- the bytes are the text of no program
abbrev pub TellsNoProgram : List ℕ → Stop → Type 0
TellsNoProgram bytes (Rejected reason.WrongProgram) = (p : Source) → IsWellFormed p → canonical_text p ≢ bytes
TellsNoProgram bytes NoMemory = Unit {0}
TellsNoProgram bytes _ = ⊥
