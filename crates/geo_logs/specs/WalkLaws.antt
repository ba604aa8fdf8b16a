-- What is walked by the rules of accepted logs, and by those of the prover, is what the definitions by chains say.
use Rattle.std.specs.Prelude.{◌≡◌, ℕ, ◌⊎◌, List, [], ◌∷◌}
use Rattle.geo_poly.specs.declared.variables.Var.{Var}
use Rattle.geo_poly.specs.Polynomials.{Summands}
use Rattle.geo_terms.specs.Constructions.{Construction}
use Rattle.proof_log.specs.declared.log.Line.{Line}
use Rattle.proof_log.specs.declared.log.Verdict.{Verdict}
use Rattle.geo_logs.specs.Chains.{ChainStep, IsAcceptedChain, LeadsTo}
use Rattle.geo_logs.specs.Defined.{IsDefinedChain, LeadsBySteps}
use Rattle.geo_logs.specs.Judging.{IsGoodSoFar}
use Rattle.geo_logs.specs.Logs.{AreConditionsWorked, Subject}
use Rattle.geo_logs.specs.Moves.{Table}
use Rattle.geo_logs.specs.Places.{AreConditionsBegun, Place}
use Rattle.geo_logs.specs.Samples.{IsAcceptedSample, IsLeastSample}
use Rattle.geo_logs.specs.Walks.{Goes, IsWalked, Rules, StandsAt, Walks, accepting, first_walk, proving, result_of}
use Rattle.geo_logs.specs.declared.walk.DueLine.TheVariants as due
use Rattle.geo_logs.specs.declared.walk.Walk.{Walk}

-- STEPS
-- steps one after another
abbrev pub Follow : Rules → List Var → ℕ → Summands → List ChainStep → ℕ → Summands → Type 0
Follow rules known left q [] left' e = (left ≡ left') × (q ≡ e)
Follow rules known left q (step ∷ steps) left' e =
    (after : ℕ) × rules.steps known left q step after × Follow rules known after (result_of step) steps left' e

-- the steps of a chain are steps one after another
pub record StepsAgree : Type 0 where
  pub accepted : (table : Table) (c : Construction) (known : List Var) (left : ℕ) (q : Summands) (steps : List ChainStep) (left' : ℕ)
      (e : Summands) → LeadsTo table c known left q steps left' e → Follow (accepting table c) known left q steps left' e
  pub accepted_follow : (table : Table) (c : Construction) (known : List Var) (left : ℕ) (q : Summands) (steps : List ChainStep)
      (left' : ℕ) (e : Summands) → Follow (accepting table c) known left q steps left' e → LeadsTo table c known left q steps left' e
  pub proved : (table : Table) (c : Construction) (known : List Var) (left : ℕ) (q : Summands) (steps : List ChainStep) (left' : ℕ)
      (e : Summands) → LeadsBySteps table c known left q steps left' e → Follow (proving table c) known left q steps left' e
  pub proved_follow : (table : Table) (c : Construction) (known : List Var) (left : ℕ) (q : Summands) (steps : List ChainStep)
      (left' : ℕ) (e : Summands) → Follow (proving table c) known left q steps left' e → LeadsBySteps table c known left q steps left' e

-- WHOLE LOGS
-- accepted logs are walked, and what is walked is accepted; and so of the prover's logs
pub record LogsAreWalked : Type 0 where
  pub accepted : (table : Table) (subject : Subject) (steps : ℕ) (lines : List Line) (verdict : Verdict) (left : ℕ)
      → let c = subject.construction in
      AreConditionsWorked (IsAcceptedChain table c) (IsAcceptedSample c) subject.goals [] [] 1 steps subject.conditions lines verdict left
      → IsWalked (accepting table c) subject steps lines verdict left
  pub walked_accepted : (table : Table) (subject : Subject) (steps : ℕ) (lines : List Line) (verdict : Verdict) (left : ℕ)
      → let c = subject.construction in IsWalked (accepting table c) subject steps lines verdict left
      → AreConditionsWorked (IsAcceptedChain table c) (IsAcceptedSample c) subject.goals [] [] 1 steps subject.conditions lines verdict left
  pub proved : (table : Table) (subject : Subject) (steps : ℕ) (lines : List Line) (verdict : Verdict) (left : ℕ)
      → let c = subject.construction in
      AreConditionsWorked (IsDefinedChain table c) (IsLeastSample c) subject.goals [] [] 1 steps subject.conditions lines verdict left
      → IsWalked (proving table c) subject steps lines verdict left
  pub walked_proved : (table : Table) (subject : Subject) (steps : ℕ) (lines : List Line) (verdict : Verdict) (left : ℕ)
      → let c = subject.construction in IsWalked (proving table c) subject steps lines verdict left
      → AreConditionsWorked (IsDefinedChain table c) (IsLeastSample c) subject.goals [] [] 1 steps subject.conditions lines verdict left

-- BEGINNINGS
-- the walk is over, or it stands at a place
abbrev pub StandsOrIsOver : Subject → Walk → Type 0
StandsOrIsOver subject w = ((place : Place) × StandsAt subject w place) ⊎ ((verdict : Verdict) × (w.due ≡ due.Nothing verdict))

-- what is walked begins an accepted log, or the prover's, at the place where the walk stands; and it stands at one until it is over
pub record WalksAreBeginnings : Type 0 where
  pub accepted : (table : Table) (subject : Subject) (steps : ℕ) (lines : List Line) (w : Walk) (place : Place)
      → Walks (accepting table subject.construction) subject (first_walk subject steps) lines w → StandsAt subject w place
      → IsGoodSoFar table subject steps lines place
  pub accepted_stand : (table : Table) (subject : Subject) (steps : ℕ) (lines : List Line) (w : Walk)
      → Walks (accepting table subject.construction) subject (first_walk subject steps) lines w → StandsOrIsOver subject w
  pub proved : (table : Table) (subject : Subject) (steps : ℕ) (lines : List Line) (w : Walk) (place : Place)
      → let c = subject.construction in Walks (proving table c) subject (first_walk subject steps) lines w → StandsAt subject w place
      → AreConditionsBegun (LeadsBySteps table c) (IsDefinedChain table c) (IsLeastSample c)
      subject.goals [] [] 1 steps subject.conditions lines place
  pub proved_stand : (table : Table) (subject : Subject) (steps : ℕ) (lines : List Line) (w : Walk)
      → Walks (proving table subject.construction) subject (first_walk subject steps) lines w → StandsOrIsOver subject w

-- ONE WALK
-- the prover's rules leave one next line, which leads to one place; and so one log, with one verdict
pub record ProversWalkIsUnique : Type 0 where
  pub next : (table : Table) (subject : Subject) (w v v' : Walk) (line other : Line)
      → Goes (proving table subject.construction) subject w line v → Goes (proving table subject.construction) subject w other v'
      → (line ≡ other) × (v ≡ v')
  pub whole : (table : Table) (subject : Subject) (steps left left' : ℕ) (lines other : List Line) (verdict verdict' : Verdict)
      → IsWalked (proving table subject.construction) subject steps lines verdict left
      → IsWalked (proving table subject.construction) subject steps other verdict' left'
      → (lines ≡ other) × (verdict ≡ verdict') × (left ≡ left')
