-- The value of a term in a placement.
use Rattle.ring_laws.specs.Fraction.{Fraction, IsNonzero, whole, plus, minus, times, negated, quotient}
use Rattle.geo_points.specs.Placements.{Placement}
use Rattle.geo_points.specs.Points.{signed_area, pythagoras_difference, ratio, HasRatio}
use Rattle.geo_terms.specs.Trees.{Tree, integer_leaf, parameter_leaf, area_leaf, pythagoras_leaf, ratio_leaf, negation, addition, subtraction, multiplication, division}

-- the number that a term stands for, where it has one
abbrev pub tree_value : Placement → Tree → Fraction
tree_value placed (integer_leaf n) = whole n
tree_value placed (parameter_leaf t) = placed.number t.0
tree_value placed (area_leaf a b c) = signed_area (placed.point a.0) (placed.point b.0) (placed.point c.0)
tree_value placed (pythagoras_leaf a b c) = pythagoras_difference (placed.point a.0) (placed.point b.0) (placed.point c.0)
tree_value placed (ratio_leaf a b c d) = ratio (placed.point a.0) (placed.point b.0) (placed.point c.0) (placed.point d.0)
tree_value placed (negation e) = negated (tree_value placed e)
tree_value placed (addition e f) = plus (tree_value placed e) (tree_value placed f)
tree_value placed (subtraction e f) = minus (tree_value placed e) (tree_value placed f)
tree_value placed (multiplication e f) = times (tree_value placed e) (tree_value placed f)
tree_value placed (division e f) = quotient (tree_value placed e) (tree_value placed f)

-- the term has a value: each of its ratios is defined, and it divides by no 0
abbrev pub HasTreeValue : Placement → Tree → Type 0
HasTreeValue placed (integer_leaf n) = Unit {0}
HasTreeValue placed (parameter_leaf t) = Unit {0}
HasTreeValue placed (area_leaf a b c) = Unit {0}
HasTreeValue placed (pythagoras_leaf a b c) = Unit {0}
HasTreeValue placed (ratio_leaf a b c d) = HasRatio (placed.point a.0) (placed.point b.0) (placed.point c.0) (placed.point d.0)
HasTreeValue placed (negation e) = HasTreeValue placed e
HasTreeValue placed (addition e f) = HasTreeValue placed e × HasTreeValue placed f
HasTreeValue placed (subtraction e f) = HasTreeValue placed e × HasTreeValue placed f
HasTreeValue placed (multiplication e f) = HasTreeValue placed e × HasTreeValue placed f
HasTreeValue placed (division e f) = HasTreeValue placed e × HasTreeValue placed f × IsNonzero (tree_value placed f)
