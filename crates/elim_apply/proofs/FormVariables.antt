-- The variables of forms.
use Rattle.std.proofs.Common.{pos}
use Rattle.fraction_poly.specs.Forms.{Form, integer, area, pythagoras, ratio, abscissa, ordinate, numerator, denominator, ◌⊞◌, ◌⊟◌, ◌⊠◌, opposite, piece_of}
use Rattle.geo_poly.specs.declared.variables.Var.{Var}
use Rattle.geo_poly.specs.declared.variables.Var.TheVariants.{X, Y}
use Rattle.geo_poly.specs.Canonical.{permutation_sign, sorted_area, sorted_difference}
use Rattle.geo_poly.specs.PolynomialVariables.{AllVariables}
use Rattle.geo_poly.proofs.EachVariable.{of-product_of}
use Rattle.geo_logs.proofs.TermVariables.{OfLeaves, of-constant_of, of-difference, of-difference_of, of-negated, of-ratio, of-signed, of-sum_of, of-term, of-variable, sorted_ratio}

module _ (Holds : Var → Type 0) where
  -- the property holds of the variables that the form writes
  abbrev pub OfForm : Form → Type 0
  OfForm (integer n) = Unit {0}
  OfForm (area a b c) = Holds (sorted_area a b c)
  OfForm (pythagoras a b c) = Holds (sorted_difference a b c)
  OfForm (ratio a b c d) = Holds (sorted_ratio Holds a b c d)
  OfForm (abscissa a) = Holds (X a)
  OfForm (ordinate a) = Holds (Y a)
  OfForm (numerator e) = OfLeaves Holds e
  OfForm (denominator e) = OfLeaves Holds e
  OfForm (f ⊞ g) = OfForm f × OfForm g
  OfForm (f ⊟ g) = OfForm f × OfForm g
  OfForm (f ⊠ g) = OfForm f × OfForm g
  OfForm (opposite f) = OfForm f

  pub of-form : (f : Form) → OfForm f → AllVariables Holds (piece_of f).poly
  of-form (integer n) h = of-constant_of Holds (pos n)
  of-form (area a b c) h = of-signed Holds (permutation_sign a b c) (sorted_area a b c) h
  of-form (pythagoras a b c) h = of-difference Holds a b c h
  of-form (ratio a b c d) h = of-ratio Holds a b c d h
  of-form (abscissa a) h = of-variable Holds (pos 1) (X a) h
  of-form (ordinate a) h = of-variable Holds (pos 1) (Y a) h
  of-form (numerator e) h = (of-term Holds e h).0
  of-form (denominator e) h = (of-term Holds e h).1
  of-form (f ⊞ g) h = of-sum_of Holds (piece_of f).poly (piece_of g).poly (of-form f h.0) (of-form g h.1)
  of-form (f ⊟ g) h = of-difference_of Holds (piece_of f).poly (piece_of g).poly (of-form f h.0) (of-form g h.1)
  of-form (f ⊠ g) h = of-product_of Holds (piece_of f).poly (piece_of g).poly (of-form f h.0) (of-form g h.1)
  of-form (opposite f) h = of-negated Holds (piece_of f).poly (of-form f h)
