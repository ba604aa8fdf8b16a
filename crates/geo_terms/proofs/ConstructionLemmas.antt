-- Constructions stay constructions where terms or parameters are added.
use Rattle.std.proofs.Common.{◌≡◌, ℕ, ◌<◌, ◌≤◌, length, sym, subst, arith}
use Rattle.geo_points.specs.declared.ids.TermId.{TermId}
use Rattle.geo_terms.specs.declared.steps.Step.{Step}
use Rattle.geo_terms.specs.declared.steps.Step.TheVariants.{Point, Inter, Foot, Pratio, Tratio, Weights}
use Rattle.geo_terms.specs.Constructions.{Construction, IsConstruction, IsStep, IsStepTerm}
use Rattle.geo_terms.specs.Stores.{Store, IsStore, tree_of}
use Rattle.geo_terms.specs.Trees.{Tree, IsStepNumber, integer_leaf, parameter_leaf, area_leaf, pythagoras_leaf, ratio_leaf, negation, addition, subtraction, multiplication, division}

-- a number for a step is one over more points and parameters too
module _ {points more_points params more_params : ℕ} (few : points ≤ more_points) (fewer : params ≤ more_params) where
  pub IsStepNumber-more : (tree : Tree) → IsStepNumber points params tree → IsStepNumber more_points more_params tree
  IsStepNumber-more (integer_leaf n) h = tt
  IsStepNumber-more (parameter_leaf t) h = omega arith
  IsStepNumber-more (area_leaf a b c) h = (omega arith, omega arith, omega arith)
  IsStepNumber-more (pythagoras_leaf a b c) h = (omega arith, omega arith, omega arith)
  IsStepNumber-more (ratio_leaf a b c d) h = h
  IsStepNumber-more (negation p) h = IsStepNumber-more p h
  IsStepNumber-more (addition p q) h = (IsStepNumber-more p h.0, IsStepNumber-more q h.1)
  IsStepNumber-more (subtraction p q) h = (IsStepNumber-more p h.0, IsStepNumber-more q h.1)
  IsStepNumber-more (multiplication p q) h = (IsStepNumber-more p h.0, IsStepNumber-more q h.1)
  IsStepNumber-more (division p q) h = (IsStepNumber-more p h.0, IsStepNumber-more q h.1)

-- the longer store has the terms of the shorter one
pub record HasTermsOf (old new : Store) : Type 0 where
  pub longer : length old ≤ length new
  pub same : (id : TermId) → id.0 < length old → tree_of new id ≡ tree_of old id

module _ (old new : Store) (terms : HasTermsOf old new) (points more_points params more_params : ℕ) (few : points ≤ more_points) (fewer : params ≤ more_params) where
  pub IsStepTerm-more : (r : TermId) → IsStepTerm old points params r → IsStepTerm new more_points more_params r
  IsStepTerm-more r h = record {
    stored = omega (arith, terms.longer, h.stored);
    number = subst (IsStepNumber more_points more_params) (sym (terms.same r h.stored)) (IsStepNumber-more few fewer (tree_of old r) h.number);
  }

  -- a step is one over more terms, points and parameters too
  pub IsStep-more : (step : Step) → IsStep old points params step → IsStep new more_points more_params step
  IsStep-more Point h = tt
  IsStep-more (Inter u v p q) h = (omega arith, omega arith, omega arith, omega arith)
  IsStep-more (Foot p u v) h = (omega arith, omega arith, omega arith)
  IsStep-more (Pratio w u v r) h = (omega arith, omega arith, omega arith, IsStepTerm-more r h.3)
  IsStep-more (Tratio u v r) h = (omega arith, omega arith, IsStepTerm-more r h.2)
  IsStep-more (Weights o u v r s) h = (omega arith, omega arith, omega arith, IsStepTerm-more r h.3, IsStepTerm-more s h.4)

-- a construction stays one over a store that has its terms, and over more parameters
pub IsConstruction-more : (c : Construction) (new : Store) (more_params : ℕ) → IsConstruction c → IsStore new → HasTermsOf c.nodes new
    → c.params ≤ more_params → more_params ≤ 4294967295 → IsConstruction (record { nodes = new; steps = c.steps; params = more_params })
IsConstruction-more c new more_params h store terms fewer fit = record {
  store = store;
  steps = λ k step at. IsStep-more c.nodes new terms k k c.params more_params (omega arith) fewer step (h.steps k step at);
  few = h.few;
  params_fit = fit;
}
