-- A lowered form stays one where its store gets more terms.
use Rattle.std.proofs.Common.{◌≡◌, ℕ, suc, Some, List, [], ◌∷◌, map, slice_get, refl, ◌∙◌, ap}
use Rattle.geo_terms.specs.declared.steps.Step.{Step}
use Rattle.geo_terms.specs.declared.steps.Step.TheVariants.{Point, Inter, Foot, Pratio, Tratio, Weights}
use Rattle.geo_terms.specs.Constructions.{Construction, IsConstruction, IsStep}
use Rattle.geo_program.specs.WellFormed.{Source}
use Rattle.geo_lowering.specs.declared.version.Version.{Version}
use Rattle.geo_lowering.specs.Lowering.{IsLowered, LoweredForm}
use Rattle.geo_lowering.specs.StepForms.{along, step_form, turned_along, weighted}
use Rattle.geo_conditions.specs.Inner.ItemTerms.{Keeps}

module _ (old new : Construction) (keeps : Keeps old new) where
  -- the form of a step over the old store
  same_step : (k m : ℕ) (s : Step) → IsStep old.nodes k m s → step_form new.nodes s ≡ step_form old.nodes s
  same_step k m Point h = refl
  same_step k m (Inter u v p q) h = refl
  same_step k m (Foot p u v) h = refl
  same_step k m (Pratio w u v r) h = λ i. along w.0 u.0 v.0 (keeps.trees r h.3.stored i)
  same_step k m (Tratio u v r) h = λ i. turned_along u.0 v.0 (keeps.trees r h.2.stored i)
  same_step k m (Weights o u v r t) h = λ i. weighted o.0 u.0 v.0 (keeps.trees r h.3.stored i) (keeps.trees t h.4.stored i)

  same_steps : (m : ℕ) (steps : List Step) → ((k : ℕ) (s : Step) → slice_get steps k ≡ Some s → (n : ℕ) × IsStep old.nodes n m s) → map (step_form new.nodes) steps ≡ map (step_form old.nodes) steps
  same_steps m [] h = refl
  same_steps m (s ∷ steps) h = λ i. same_step (h 0 s refl).0 m s (h 0 s refl).1 i ∷ same_steps m steps (λ k t e. h (suc k) t e) i

pub still_lowered : (version : Version) (p : Source) (l : LoweredForm) (new : Construction) → IsLowered version p l
    → Keeps l.construction new → IsConstruction new → IsLowered version p (record l { construction = new })
still_lowered version p l new h keeps valid = record {
  valid = valid;
  steps = ap (map (step_form new.nodes)) keeps.steps
      ∙ same_steps l.construction new keeps l.construction.params l.construction.steps (λ k s e. (k, h.valid.steps k s e)) ∙ h.steps;
  numbers = keeps.params ∙ h.numbers;
  points = h.points;
  lines = h.lines;
  params = h.params;
  after = h.after;
}
