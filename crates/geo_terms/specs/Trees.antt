-- Terms as trees.
use Rattle.std.specs.Prelude.{ℕ, ◌<◌, ℤ}
use Rattle.geo_points.specs.declared.ids.PointId.{PointId}
use Rattle.geo_points.specs.declared.ids.ParamId.{ParamId}

-- a number made of whole numbers, parameters and quantities of points
pub data Tree : Type 0 where
  integer_leaf : ℤ → Tree
  parameter_leaf : ParamId → Tree
  area_leaf : PointId → PointId → PointId → Tree
  pythagoras_leaf : PointId → PointId → PointId → Tree
  ratio_leaf : PointId → PointId → PointId → PointId → Tree
  negation : Tree → Tree
  addition : Tree → Tree → Tree
  subtraction : Tree → Tree → Tree
  multiplication : Tree → Tree → Tree
  division : Tree → Tree → Tree

-- the tree names points below `points` and parameters below `params` alone, and has no ratio
abbrev pub IsStepNumber : ℕ → ℕ → Tree → Type 0
IsStepNumber points params (integer_leaf n) = Unit {0}
IsStepNumber points params (parameter_leaf t) = t.0 < params
IsStepNumber points params (area_leaf a b c) = (a.0 < points) × (b.0 < points) × (c.0 < points)
IsStepNumber points params (pythagoras_leaf a b c) = (a.0 < points) × (b.0 < points) × (c.0 < points)
IsStepNumber points params (ratio_leaf a b c d) = ⊥
IsStepNumber points params (negation e) = IsStepNumber points params e
IsStepNumber points params (addition e f) = IsStepNumber points params e × IsStepNumber points params f
IsStepNumber points params (subtraction e f) = IsStepNumber points params e × IsStepNumber points params f
IsStepNumber points params (multiplication e f) = IsStepNumber points params e × IsStepNumber points params f
IsStepNumber points params (division e f) = IsStepNumber points params e × IsStepNumber points params f
