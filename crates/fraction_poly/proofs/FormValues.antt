-- The values of forms at a placement, and rows that hold because of an identity between such values.
use Rattle.std.proofs.Common.{◌≡◌, ℕ, Bool, true, false, ◌&&◌, pos, Option, Some, refl, subst, IfSome}
use Rattle.fraction_poly.specs.Forms.{Form, integer, area, pythagoras, ratio, abscissa, ordinate, numerator, denominator, ◌⊞◌, ◌⊟◌, ◌⊠◌, opposite, piece_of}
use Rattle.fraction_poly.specs.Laws.{polynomial_value}
use Rattle.fraction_poly.specs.MultipliedOut.{multiplied_out}
use Rattle.fraction_poly.specs.TableRows.{TableRow, RowHolds, made_row}
use Rattle.fraction_poly.proofs.PolynomialValues.{◌∘◌, flip, self, sums, products, opposites, one_times, minus_is, constant_is, variable_is}
use Rattle.fraction_poly.proofs.PolynomialValues.{area_is, pythagoras_is, ratio_is, negated_is, sum_is, difference_is, product_is}
use Rattle.fraction_poly.proofs.TermValues.{nonzero_same}
use Rattle.ring_laws.proofs.Fractions.{fractions}
use Rattle.ring_laws.specs.Fraction.{Fraction, IsNonzero, Same, whole, plus, minus, negated, times}
use Rattle.geo_points.specs.Placements.{Placement}
use Rattle.geo_points.specs.Points.{signed_area, pythagoras_difference, ratio as point_ratio, HasRatio, x_coordinate, y_coordinate}
use Rattle.geo_poly.specs.declared.variables.Var.{Var}
use Rattle.geo_poly.specs.declared.variables.Var.TheVariants.{X, Y}
use Rattle.geo_poly.specs.Values.{variable_value}

-- the form has no ratio
abbrev pub has_no_ratio : Form → Bool
has_no_ratio (ratio a b c d) = false
has_no_ratio (f ⊞ g) = has_no_ratio f && has_no_ratio g
has_no_ratio (f ⊟ g) = has_no_ratio f && has_no_ratio g
has_no_ratio (f ⊠ g) = has_no_ratio f && has_no_ratio g
has_no_ratio (opposite f) = has_no_ratio f
has_no_ratio _ = true

both_true : (p q : Bool) → (p && q) ≡ true → (p ≡ true) × (q ≡ true)
both_true true q e = (refl, e)
both_true false q e = absurd (cc)

module _ (placed : Placement) where
  abbrev x : Var → Fraction
  x = variable_value placed.point placed.number

  -- the value of a form, in quantities of points
  abbrev pub form_value : Form → Fraction
  form_value (integer n) = whole (pos n)
  form_value (area a b c) = signed_area (placed.point a.0) (placed.point b.0) (placed.point c.0)
  form_value (pythagoras a b c) = pythagoras_difference (placed.point a.0) (placed.point b.0) (placed.point c.0)
  form_value (ratio a b c d) = point_ratio (placed.point a.0) (placed.point b.0) (placed.point c.0) (placed.point d.0)
  form_value (abscissa a) = x_coordinate (placed.point a.0)
  form_value (ordinate a) = y_coordinate (placed.point a.0)
  form_value (numerator e) = polynomial_value placed (multiplied_out e).0
  form_value (denominator e) = polynomial_value placed (multiplied_out e).1
  form_value (f ⊞ g) = plus (form_value f) (form_value g)
  form_value (f ⊟ g) = minus (form_value f) (form_value g)
  form_value (f ⊠ g) = times (form_value f) (form_value g)
  form_value (opposite f) = negated (form_value f)

  -- each ratio of the form is defined
  abbrev pub RatiosDefined : Form → Type 0
  RatiosDefined (ratio a b c d) = HasRatio (placed.point a.0) (placed.point b.0) (placed.point c.0) (placed.point d.0)
  RatiosDefined (f ⊞ g) = RatiosDefined f × RatiosDefined g
  RatiosDefined (f ⊟ g) = RatiosDefined f × RatiosDefined g
  RatiosDefined (f ⊠ g) = RatiosDefined f × RatiosDefined g
  RatiosDefined (opposite f) = RatiosDefined f
  RatiosDefined _ = Unit {0}

  pub no_ratios : (f : Form) → has_no_ratio f ≡ true → RatiosDefined f
  no_ratios (integer n) e = tt
  no_ratios (area a b c) e = tt
  no_ratios (pythagoras a b c) e = tt
  no_ratios (ratio a b c d) e = absurd (cc)
  no_ratios (abscissa a) e = tt
  no_ratios (ordinate a) e = tt
  no_ratios (numerator t) e = tt
  no_ratios (denominator t) e = tt
  no_ratios (f ⊞ g) e = let both = both_true (has_no_ratio f) (has_no_ratio g) e in (no_ratios f both.0, no_ratios g both.1)
  no_ratios (f ⊟ g) e = let both = both_true (has_no_ratio f) (has_no_ratio g) e in (no_ratios f both.0, no_ratios g both.1)
  no_ratios (f ⊠ g) e = let both = both_true (has_no_ratio f) (has_no_ratio g) e in (no_ratios f both.0, no_ratios g both.1)
  no_ratios (opposite f) e = no_ratios f e

  -- a form multiplies out to a polynomial of its value
  pub piece-value : (f : Form) → RatiosDefined f → Same (polynomial_value placed (piece_of f).poly) (form_value f)
  piece-value (integer n) h = constant_is placed (pos n)
  piece-value (area a b c) h = area_is placed a b c
  piece-value (pythagoras a b c) h = pythagoras_is placed a b c
  piece-value (ratio a b c d) h = ratio_is placed a b c d h
  piece-value (abscissa a) h = variable_is placed (pos 1) (X a) ∘ one_times (x (X a))
  piece-value (ordinate a) h = variable_is placed (pos 1) (Y a) ∘ one_times (x (Y a))
  piece-value (numerator e) h = self
  piece-value (denominator e) h = self
  piece-value (f ⊞ g) h = sum_is placed _ _ ∘ sums (piece-value f h.0) (piece-value g h.1)
  piece-value (f ⊟ g) h = difference_is placed _ _ ∘ sums (piece-value f h.0) (opposites (piece-value g h.1)) ∘ minus_is _ _
  piece-value (f ⊠ g) h = product_is placed _ _ ∘ products (piece-value f h.0) (piece-value g h.1)
  piece-value (opposite f) h = negated_is placed _ ∘ opposites (piece-value f h)

  -- ROWS
  -- the row holds for its variable
  abbrev pub Holds : Var → TableRow → Type 0
  Holds v r = RowHolds placed (made_row v r).0 (made_row v r).1

  -- a row of power 1, by the identity of its forms
  pub holds_one : (v : Var) (num den : Form) (charge : ℕ) → RatiosDefined num → RatiosDefined den
      → IsNonzero (form_value den) → Same (times (x v) (form_value den)) (form_value num)
      → Holds v (record { power = 1; num = num; den = den; charge = charge })
  holds_one v num den charge in_num in_den nonzero same = record {
    nonzero = nonzero_same _ _ (piece-value den in_den) nonzero;
    equation = products self (one_times _ ∘ piece-value den in_den) ∘ same ∘ flip (piece-value num in_num);
  }

  -- a row of power 2
  pub holds_two : (v : Var) (num den : Form) (charge : ℕ) → RatiosDefined num → RatiosDefined den
      → IsNonzero (form_value den) → Same (times (x v) (times (form_value den) (form_value den))) (form_value num)
      → Holds v (record { power = 2; num = num; den = den; charge = charge })
  holds_two v num den charge in_num in_den nonzero same = record {
    nonzero = nonzero_same _ _ (piece-value den in_den) nonzero;
    equation =
        products self (products (one_times _ ∘ piece-value den in_den) (piece-value den in_den))
        ∘ same ∘ flip (piece-value num in_num);
  }

  -- a row of power 0
  pub holds_zero : (v : Var) (num den : Form) (charge : ℕ) → RatiosDefined num → RatiosDefined den
      → IsNonzero (form_value den) → Same (x v) (form_value num)
      → Holds v (record { power = 0; num = num; den = den; charge = charge })
  holds_zero v num den charge in_num in_den nonzero same = record {
    nonzero = nonzero_same _ _ (piece-value den in_den) nonzero;
    equation = fractions.mul-one _ ∘ same ∘ flip (piece-value num in_num);
  }

-- what holds of the row of an option, where there is one, holds of a row that it is
pub of_some : (o : Option TableRow) (r : TableRow) (P : TableRow → Type 0) → o ≡ Some r → IfSome o P → P r
of_some o r P e h = subst (λ (q : Option TableRow). IfSome q P) e h
