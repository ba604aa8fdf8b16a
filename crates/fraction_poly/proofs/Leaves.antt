-- The variables of leaves: a longer list has them too.
use Rattle.std.proofs.Common.{List}
use Rattle.std.specs.Prelude.{Contains}
use Rattle.fraction_poly.specs.declared.drafts.Draft.{Draft}
use Rattle.fraction_poly.specs.declared.drafts.Draft.TheVariants.{Integer, Area, Pythagoras, Ratio, Abscissa, Ordinate, Numerator, Denominator, Combined', Opposite'}
use Rattle.fraction_poly.specs.declared.drafts.Number.{Number}
use Rattle.fraction_poly.specs.declared.step_numbers.StepNumber.{StepNumber}
use Rattle.fraction_poly.specs.Inner.Drafts.{AllLeaves}
use Rattle.fraction_poly.specs.Inner.Numerators.{IsLinear}
use Rattle.geo_poly.specs.declared.variables.Var.{Var}
use Rattle.geo_poly.specs.declared.variables.Var.TheVariants.{X, Y, T}
use Rattle.geo_terms.specs.Trees.{Tree, integer_leaf, parameter_leaf, area_leaf, pythagoras_leaf, ratio_leaf, negation, addition, subtraction, multiplication, division}
use Rattle.geo_poly.proofs.Unions.{AllVariables-longer}

pub leaves_longer : (old new : List Var) (n : Number → StepNumber) → ((v : Var) → Contains old v → Contains new v) → (d : Draft) → AllLeaves (Contains old) n d → AllLeaves (Contains new) n d
leaves_longer old new n more (Integer k) h = tt
leaves_longer old new n more (Area a b c) h = AllVariables-longer old new _ more h
leaves_longer old new n more (Pythagoras a b c) h = AllVariables-longer old new _ more h
leaves_longer old new n more (Ratio a b c d) h = AllVariables-longer old new _ more h
leaves_longer old new n more (Abscissa a) h = more (X a) h
leaves_longer old new n more (Ordinate a) h = more (Y a) h
leaves_longer old new n more (Numerator k) h = AllVariables-longer old new _ more h
leaves_longer old new n more (Denominator k) h = AllVariables-longer old new _ more h
leaves_longer old new n more (Combined' p o f g) h = (leaves_longer old new n more f h.0, leaves_longer old new n more g h.1)
leaves_longer old new n more (Opposite' p f) h = leaves_longer old new n more f h

-- TERMS THAT HAVE NO PRODUCT AND NO QUOTIENT
pub linear_longer : (old new : List Var) → ((v : Var) → Contains old v → Contains new v) → (e : Tree)
    → IsLinear (Contains old) e → IsLinear (Contains new) e
linear_longer old new more (integer_leaf n) h = tt
linear_longer old new more (parameter_leaf t) h = more (T t) h
linear_longer old new more (area_leaf a b c) h = AllVariables-longer old new _ more h
linear_longer old new more (pythagoras_leaf a b c) h = AllVariables-longer old new _ more h
linear_longer old new more (ratio_leaf a b c d) h = AllVariables-longer old new _ more h
linear_longer old new more (negation e) h = linear_longer old new more e h
linear_longer old new more (addition e f) h = (linear_longer old new more e h.0, linear_longer old new more f h.1)
linear_longer old new more (subtraction e f) h = (linear_longer old new more e h.0, linear_longer old new more f h.1)
linear_longer old new more (multiplication e f) h = absurd h
linear_longer old new more (division e f) h = absurd h
