-- What logs are judged by: placements that meet steps, variables and terms with values, samples.
use Rattle.std.specs.Prelude.{◌≡◌, ℕ, ◌<◌, ℤ, Some, List, slice_get}
use Rattle.geo_points.specs.declared.ids.PointId.{PointId}
use Rattle.geo_points.specs.declared.ids.ParamId.{ParamId}
use Rattle.ring_laws.specs.Fraction.{Same, IsNonzero, whole}
use Rattle.geo_points.specs.Placements.{Placement}
use Rattle.geo_points.specs.Points.{x_coordinate, y_coordinate}
use Rattle.geo_poly.specs.declared.variables.Var.{Var}
use Rattle.geo_poly.specs.declared.variables.Var.TheVariants.{X, Y, T}
use Rattle.geo_terms.specs.declared.steps.Step.{Step}
use Rattle.geo_terms.specs.Constructions.{Construction, IsStepMet}
use Rattle.geo_terms.specs.Trees.{Tree}
use Rattle.geo_terms.specs.Values.{HasTreeValue, tree_value}
use Rattle.geo_logs.specs.Naming.{IsFree}
use Rattle.geo_logs.specs.Samples.{value_in}

-- VALUES
-- a condition holds: its term has a value, and this is not 0
pub record HoldsAsCondition (placed : Placement) (e : Tree) : Type 0 where
  pub has_value : HasTreeValue placed e
  pub nonzero : IsNonzero (tree_value placed e)

-- STEPS
-- the steps of all points below n are met
abbrev pub MeetsStepsBelow : Placement → Construction → ℕ → Type 0
MeetsStepsBelow placed c n = (k : ℕ) (step : Step) → k < n → slice_get c.steps k ≡ Some step → IsStepMet placed c.nodes k step

-- SAMPLES
-- the free points below n, and the parameters, have the values of the sample
pub record HasValuesBelow (placed : Placement) (c : Construction) (n : ℕ) (values : List (Var × ℤ)) : Type 0 where
  pub by_x : (a : PointId) → a.0 < n → IsFree c a → Same (x_coordinate (placed.point a.0)) (whole (value_in values (X a)))
  pub by_y : (a : PointId) → a.0 < n → IsFree c a → Same (y_coordinate (placed.point a.0)) (whole (value_in values (Y a)))
  pub by_number : (t : ParamId) → t.0 < c.params → Same (placed.number t.0) (whole (value_in values (T t)))
