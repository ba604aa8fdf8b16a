-- The values of the polynomials that a term's parts are made of, at a placement.
use Rattle.std.proofs.Common.{◌≡◌, ℕ, zero, suc, Bool, true, false, cond, eqb, ℤ, pos, negsuc, neg_ℤ, Option, Some, None, unsigned_abs, [], ◌∷◌, refl, sym, subst, ap, arith}
use Rattle.std.proofs.lemmas.Bool.{eqb-true}
use Rattle.std.proofs.lemmas.Int.{ints}
use Rattle.ring_laws.specs.Solver.{natural}
use Rattle.ring_laws.proofs.Laws as Laws
use Rattle.geo_points.specs.declared.ids.PointId.{PointId}
use Rattle.ring_laws.specs.Fraction.{Fraction, Same, whole, plus, negated, minus, times}
use Rattle.geo_points.specs.Placements.{Placement}
use Rattle.geo_points.specs.Points.{signed_area, pythagoras_difference, ratio, HasRatio}
use Rattle.ring_laws.proofs.Fractions.{fractions}
use Rattle.geo_poly.specs.declared.canonical.Canon.{Canon}
use Rattle.geo_poly.specs.declared.variables.Var.{Var}
use Rattle.geo_poly.specs.Canonical.{canonical_area, canonical_difference, canonical_ratio, canon_value}
use Rattle.geo_poly.specs.Polynomials.{Summands, constant_of, sum_of, difference_of, product_of}
use Rattle.geo_poly.specs.Polynomials as Polynomials
use Rattle.geo_poly.specs.Values.{integer, variable_value}
use Rattle.geo_poly.proofs.CanonicalAreas.{canonical_area-value}
use Rattle.geo_poly.proofs.CanonicalRatios.{canonical_difference-value, canonical_ratio-value}
use Rattle.geo_poly.proofs.Values.{value-sum_of, value-product_of}
use Rattle.fraction_poly.specs.Laws.{polynomial_value}
use Rattle.fraction_poly.specs.MultipliedOut.{variable_polynomial, canon_polynomial}

infixr 3 ◌∘◌
pub ◌∘◌ : {a b c : Fraction} → Same a b → Same b c → Same a c
◌∘◌ p q = fractions.same_trans _ _ _ p q

pub flip : {a b : Fraction} → Same a b → Same b a
flip p = fractions.same_sym _ _ p

pub self : {a : Fraction} → Same a a
self {a} = fractions.same_refl a

pub sums : {a b c d : Fraction} → Same a b → Same c d → Same (plus a c) (plus b d)
sums p q = fractions.add-same _ _ _ _ p q

pub products : {a b c d : Fraction} → Same a b → Same c d → Same (times a c) (times b d)
products p q = fractions.mul-same _ _ _ _ p q

pub opposites : {a b : Fraction} → Same a b → Same (negated a) (negated b)
opposites p = fractions.neg-same _ _ p

pub one_times : (a : Fraction) → Same (times (whole (pos 1)) a) a
one_times a = fractions.mul_comm (whole (pos 1)) a ∘ fractions.mul-one a

pub minus_is : (a b : Fraction) → Same (plus a (negated b)) (minus a b)
unfolding minus
minus_is a b = fractions.same_refl _

-- WHOLE NUMBERS
natural_is : (k : ℕ) → Same (natural fractions k) (whole (pos k))
unfolding whole plus negated times
natural_is zero = fractions.same_refl _
natural_is (suc k) = fractions.same_trans _ _ _ (fractions.add-same _ _ _ _ (natural_is k) (fractions.same_refl (whole (pos 1)))) (next k)
  where
    next : (k : ℕ) → Same (plus (whole (pos k)) (whole (pos 1))) (whole (pos (suc k)))
    next k = record { crossed = ap pos (omega arith) }

negative_is : (k : ℕ) → negated (whole (pos (suc k))) ≡ whole (negsuc k)
unfolding whole negated
negative_is k = refl

pub integer_is : (z : ℤ) → Same (integer fractions z) (whole z)
integer_is (pos k) = natural_is k
integer_is (negsuc k) = subst (λ (w : Fraction). Same (integer fractions (negsuc k)) w) (negative_is k) (opposites (natural_is (suc k)))

integer-neg : (z : ℤ) → Same (integer fractions (neg_ℤ z)) (negated (integer fractions z))
integer-neg (pos zero) = flip (Laws.neg-zero fractions)
integer-neg (pos (suc k)) = self
integer-neg (negsuc k) = flip (Laws.neg-neg fractions (natural fractions (suc k)))

pub null_of_abs : (z : ℤ) → unsigned_abs z ≡ 0 → z ≡ pos 0
null_of_abs z e = omega (arith, ints, e)

module _ (placed : Placement) where
  -- the value of a variable at the placement
  abbrev x : Var → Fraction
  x = variable_value placed.point placed.number

  pub constant_is : (z : ℤ) → Same (polynomial_value placed (constant_of z)) (whole z)
  constant_is z = go (eqb (unsigned_abs z) 0) refl
    where
      go : (b : Bool) → eqb (unsigned_abs z) 0 ≡ b → Same (polynomial_value placed (cond b [] (([], z) ∷ []))) (whole z)
      go true e = subst (λ (n : ℤ). Same (whole (pos 0)) (whole n)) (sym (null_of_abs z (eqb-true (unsigned_abs z) 0 e))) self
      go false e = fractions.add-zero _ ∘ fractions.mul-one _ ∘ integer_is z

  pub variable_is : (sign : ℤ) (v : Var) → Same (polynomial_value placed (variable_polynomial sign v)) (times (whole sign) (x v))
  variable_is sign v = fractions.add-zero _ ∘ products (integer_is sign) (fractions.mul-one _ ∘ one_times (x v))

  pub canon_is : (c : Canon) → Same (polynomial_value placed (canon_polynomial c)) (canon_value placed.point placed.number c)
  canon_is c = go c.var
    where
      go : (o : Option Var) → Same (polynomial_value placed (canon_polynomial (record { sign = c.sign; var = o }))) (canon_value placed.point placed.number (record { sign = c.sign; var = o }))
      go None = constant_is c.sign
      go (Some v) = variable_is c.sign v

  -- the value of a canonical area is the signed area
  pub area_is : (a b c : PointId) → Same (polynomial_value placed (canon_polynomial (canonical_area a b c))) (signed_area (placed.point a.0) (placed.point b.0) (placed.point c.0))
  area_is a b c = canon_is (canonical_area a b c) ∘ flip (canonical_area-value placed.point placed.number a b c)

  -- that of a canonical Pythagoras difference is the difference
  pub pythagoras_is : (a b c : PointId) → Same (polynomial_value placed (canon_polynomial (canonical_difference a b c)))
      (pythagoras_difference (placed.point a.0) (placed.point b.0) (placed.point c.0))
  pythagoras_is a b c = canon_is (canonical_difference a b c) ∘ flip (canonical_difference-value placed.point placed.number a b c)

  -- that of a canonical ratio is the ratio, where this is defined
  pub ratio_is : (a b c d : PointId) → HasRatio (placed.point a.0) (placed.point b.0) (placed.point c.0) (placed.point d.0)
      → Same (polynomial_value placed (canon_polynomial (canonical_ratio a b c d))) (ratio (placed.point a.0) (placed.point b.0) (placed.point c.0) (placed.point d.0))
  ratio_is a b c d h = canon_is (canonical_ratio a b c d) ∘ flip (canonical_ratio-value placed.point placed.number a b c d h)

  pub negated_is : (q : Summands) → Same (polynomial_value placed (Polynomials.negated q)) (negated (polynomial_value placed q))
  negated_is [] = flip (Laws.neg-zero fractions)
  negated_is (t ∷ ts) =
      sums (products (integer-neg t.1) self ∘ Laws.neg-mul fractions _ _) (negated_is ts)
      ∘ flip (Laws.neg-add fractions _ _)

  pub sum_is : (p q : Summands) → Same (polynomial_value placed (sum_of p q)) (plus (polynomial_value placed p) (polynomial_value placed q))
  sum_is p q = value-sum_of fractions x p q

  pub difference_is : (p q : Summands) → Same (polynomial_value placed (difference_of p q)) (plus (polynomial_value placed p) (negated (polynomial_value placed q)))
  difference_is p q = value-sum_of fractions x p (Polynomials.negated q) ∘ sums self (negated_is q)

  pub product_is : (p q : Summands) → Same (polynomial_value placed (product_of p q)) (times (polynomial_value placed p) (polynomial_value placed q))
  product_is p q = value-product_of fractions x p q
