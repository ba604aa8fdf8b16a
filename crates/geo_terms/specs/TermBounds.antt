-- The points and parameters that a term names.
use Rattle.std.specs.Prelude.{ℕ, ◌<◌}
use Rattle.geo_terms.specs.Trees.{Tree, integer_leaf, parameter_leaf, area_leaf, pythagoras_leaf, ratio_leaf, negation, addition, subtraction, multiplication, division}

-- the term names points below `points` and parameters below `params` alone
abbrev pub IsTermBelow : ℕ → ℕ → Tree → Type 0
IsTermBelow points params (integer_leaf n) = Unit {0}
IsTermBelow points params (parameter_leaf t) = t.0 < params
IsTermBelow points params (area_leaf a b c) = (a.0 < points) × (b.0 < points) × (c.0 < points)
IsTermBelow points params (pythagoras_leaf a b c) = (a.0 < points) × (b.0 < points) × (c.0 < points)
IsTermBelow points params (ratio_leaf a b c d) = (a.0 < points) × (b.0 < points) × (c.0 < points) × (d.0 < points)
IsTermBelow points params (negation e) = IsTermBelow points params e
IsTermBelow points params (addition e f) = IsTermBelow points params e × IsTermBelow points params f
IsTermBelow points params (subtraction e f) = IsTermBelow points params e × IsTermBelow points params f
IsTermBelow points params (multiplication e f) = IsTermBelow points params e × IsTermBelow points params f
IsTermBelow points params (division e f) = IsTermBelow points params e × IsTermBelow points params f
