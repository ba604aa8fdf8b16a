-- Constructions that grow.
use Rattle.std.specs.Prelude.{◌≡◌, ◌<◌, ◌≤◌, List, ◌++◌, length, map}
use Rattle.geo_points.specs.declared.ids.TermId.{TermId}
use Rattle.geo_terms.specs.Constructions.{Construction}
use Rattle.geo_terms.specs.Stores.{tree_of}
use Rattle.geo_lowering.specs.StepForms.{StepForm, step_form}

-- the steps are the earlier ones and then these, over the same terms and parameters
pub record HasMore (old new : Construction) (forms : List StepForm) : Type 0 where
  pub nodes : new.nodes ≡ old.nodes
  pub params : new.params ≡ old.params
  pub steps : map (step_form old.nodes) new.steps ≡ map (step_form old.nodes) old.steps ++ forms

-- the steps and the trees of all terms stay
pub record KeepsTerms (old new : Construction) : Type 0 where
  pub steps : new.steps ≡ old.steps
  pub longer : length old.nodes ≤ length new.nodes
  pub trees : (id : TermId) → id.0 < length old.nodes → tree_of new.nodes id ≡ tree_of old.nodes id
