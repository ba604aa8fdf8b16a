-- What the code knows, while it makes the numerators of linear terms in a ring.
use Rattle.std.specs.Prelude.{◌≡◌, pos}
use Rattle.geo_poly.specs.declared.variables.Var.{Var}
use Rattle.geo_poly.specs.declared.variables.Var.TheVariants.{T}
use Rattle.geo_poly.specs.Canonical.{canonical_area, canonical_difference, canonical_ratio}
use Rattle.geo_poly.specs.Polynomials.{constant_of}
use Rattle.geo_poly.specs.PolynomialVariables.{AllVariables}
use Rattle.geo_poly.specs.Rings.{IsElementFor, RingValue}
use Rattle.geo_poly.specs.Shared.{Indices}
use Rattle.geo_terms.specs.Trees.{Tree, integer_leaf, parameter_leaf, area_leaf, pythagoras_leaf, ratio_leaf, negation, addition, subtraction, multiplication, division}
use Rattle.fraction_poly.specs.MultipliedOut.{canon_polynomial, multiplied_out}

-- the term has no product and no quotient, and each variable of a leaf has the property
abbrev pub IsLinear : (Var → Type 0) → Tree → Type 0
IsLinear Holds (integer_leaf n) = Unit {0}
IsLinear Holds (parameter_leaf t) = Holds (T t)
IsLinear Holds (area_leaf a b c) = AllVariables Holds (canon_polynomial (canonical_area a b c))
IsLinear Holds (pythagoras_leaf a b c) = AllVariables Holds (canon_polynomial (canonical_difference a b c))
IsLinear Holds (ratio_leaf a b c d) = AllVariables Holds (canon_polynomial (canonical_ratio a b c d))
IsLinear Holds (negation e) = IsLinear Holds e
IsLinear Holds (addition e f) = IsLinear Holds e × IsLinear Holds f
IsLinear Holds (subtraction e f) = IsLinear Holds e × IsLinear Holds f
IsLinear Holds (multiplication e f) = ⊥
IsLinear Holds (division e f) = ⊥

-- the element is the numerator of the term, and its denominator is 1
pub record IsNumerator (r : RingValue) (e : Tree) (element : Indices) : Type 0 where
  pub numerator : IsElementFor r (multiplied_out e).0 element
  pub one : (multiplied_out e).1 ≡ constant_of (pos 1)
