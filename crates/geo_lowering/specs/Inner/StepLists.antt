-- Lists of steps, and what they stand for.
use Rattle.std.specs.Prelude.{◌≡◌, ℕ, suc, ◌<◌, length, List, [], ◌∷◌, map}
use Rattle.std.specs.List.{AllByRecursion}
use Rattle.geo_terms.specs.declared.steps.Step.{Step}
use Rattle.geo_terms.specs.declared.steps.Step.TheVariants.{Pratio, Tratio, Weights}
use Rattle.geo_terms.specs.Constructions.{IsStep}
use Rattle.geo_terms.specs.Stores.{Store}
use Rattle.geo_lowering.specs.StepForms.{StepForm, step_form}

-- the numbers of the step stand in the store
abbrev pub HasStoredNumber : Store → Step → Type 0
HasStoredNumber nodes (Pratio w u v r) = r.0 < length nodes
HasStoredNumber nodes (Tratio u v r) = r.0 < length nodes
HasStoredNumber nodes (Weights o u v r s) = (r.0 < length nodes) × (s.0 < length nodes)
HasStoredNumber nodes _ = Unit {0}

-- the steps have these forms, and their numbers stand in the store
pub record HaveForms (nodes : Store) (forms : List StepForm) (steps : List Step) : Type 0 where
  pub formed : map (step_form nodes) steps ≡ forms
  pub stored : AllByRecursion (HasStoredNumber nodes) steps

-- each step, the first of which makes the point n, is one over the points before it
abbrev pub AreStepsFrom : Store → ℕ → ℕ → List Step → Type 0
AreStepsFrom nodes n params [] = Unit {0}
AreStepsFrom nodes n params (step ∷ steps) = IsStep nodes n params step × AreStepsFrom nodes (suc n) params steps
