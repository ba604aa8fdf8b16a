-- The factor that is cut out: the divisor of the coefficients with a sign, and the common monomial.
use Rattle.std.proofs.Common.{◌≡◌, ℕ, ◌<◌, ◌^◌, eqb, true, false, ◌⊎◌, inl, inr, ℤ, pos, neg_ℤ, ◌-ℤ◌, ◌<ℤ◌, List, [], ◌∷◌, length, get_or}
use Rattle.std.proofs.Common.{refl, sym, ap, subst, ◌∙◌, unsigned_abs, FitsSigned, to_z, of_z, Contains, arith}
use Rattle.std.specs.Int.{w128, ◌∣◌}
use Rattle.std.specs.Int.RustNames.{int_lt}
use Rattle.std.proofs.Math.Nat.{eq-zero_of_zero-dvd}
use Rattle.std.proofs.lemmas.Bool.Decides.{nat_tests}
use Rattle.std.proofs.lemmas.Int.{ints, to_z-of_z, fits_signed_from_abs}
use Rattle.std.proofs.lemmas.List.Elements.{All-head}
use Rattle.geo_poly.specs.declared.variables.Var.{Var}
use Rattle.geo_poly.specs.Monomials.{Powers, IsMonomial, exponent}
use Rattle.geo_poly.specs.Polynomials.{Summands, IsPolynomial}
use Rattle.geo_poly.specs.Factors.{DividesAll, IsFactor, IsFactorOf, IsLeastExponent, leading_coefficient}

-- z is D with the sign of c
pub record IsSigned (c D z : ℤ) : Type 0 where
  pub choice : ((c <ℤ pos 0) × (z ≡ neg_ℤ D)) ⊎ ((c <ℤ pos 0 → ⊥) × (z ≡ D))

size-negated : (D : ℤ) → unsigned_abs (neg_ℤ D) ≡ unsigned_abs D
size-negated D = omega (arith, ints)

pub size-signed : (c D z : ℤ) → IsSigned c D z → unsigned_abs z ≡ unsigned_abs D
size-signed c D z h = elim h.choice [ inl p ↦ ap unsigned_abs p.1 ∙ size-negated D | inr p ↦ ap unsigned_abs p.1 ]

pub leading_coefficient-is : (p : Summands) (t : Powers × ℤ) → 0 < length p → leading_coefficient p ≡ (get_or p 0 t).1
leading_coefficient-is [] t h = absurd (omega arith)
leading_coefficient-is (u ∷ us) t h = refl

-- a divisor of the coefficients is not 0
pub nonzero_divisor : (p : Summands) (d : ℕ) → IsPolynomial p → 0 < length p → DividesAll d p → d ≡ 0 → ⊥
nonzero_divisor [] d h some all e = absurd (omega arith)
nonzero_divisor (t ∷ ts) d h some all e =
    let zero-dvd : 0 ∣ unsigned_abs t.1 = subst (λ n. n ∣ unsigned_abs t.1) e (All-head (λ (t : Powers × ℤ). d ∣ unsigned_abs t.1) t ts all) in
    let none : unsigned_abs t.1 ≡ 0 = eq-zero_of_zero-dvd zero-dvd in
    let nonzero : eqb (unsigned_abs t.1) 0 ≡ false = h.in_order.0 in
    grind (arith, nat_tests)

signs : (c D z : ℤ) → D ≡ pos (unsigned_abs D) → (unsigned_abs D ≡ 0 → ⊥) → IsSigned c D z → (z <ℤ pos 0 → c <ℤ pos 0) × (c <ℤ pos 0 → z <ℤ pos 0)
signs c D z positive nonzero h = elim h.choice [
  | inl p ↦ (λ _. p.0, λ _. negative D z positive nonzero p.1)
  | inr p ↦ (λ below. absurd (not_negative D z positive p.1 below), λ below. absurd (p.0 below))
]
  where
    negative : (D z : ℤ) → D ≡ pos (unsigned_abs D) → (unsigned_abs D ≡ 0 → ⊥) → z ≡ neg_ℤ D → z <ℤ pos 0
    negative D z positive nonzero e = omega (arith, ints, positive, nonzero, e)

    not_negative : (D z : ℤ) → D ≡ pos (unsigned_abs D) → z ≡ D → z <ℤ pos 0 → ⊥
    not_negative D z positive e below = omega (arith, ints, positive, e, below)

pub IsFactor-signed : (p : Summands) (m : Powers) (D z : ℤ) → IsPolynomial p → 0 < length p → DividesAll (unsigned_abs D) p
    → unsigned_abs D < 2 ^ 127 → IsSigned (leading_coefficient p) D z → IsMonomial m → IsFactor (m, z)
IsFactor-signed p m D z h some divides fits signed monomial = record {
  monomial = monomial;
  nonzero = λ e. nonzero_divisor p (unsigned_abs D) h some divides (sym (size-signed (leading_coefficient p) D z signed) ∙ e);
  fits = omega (arith, size-signed (leading_coefficient p) D z signed, fits);
}

pub IsFactorOf-signed : (ks : List Var) (p : Summands) (m : Powers) (D z : ℤ)
    → IsPolynomial p
    → 0 < length p
    → D ≡ pos (unsigned_abs D)
    → DividesAll (unsigned_abs D) p
    → ((d : ℕ) → DividesAll d p → d ∣ unsigned_abs D)
    → IsSigned (leading_coefficient p) D z
    → IsMonomial m
    → ((v : Var) → Contains ks v → IsLeastExponent v p (exponent v m))
    → ((v : Var) → (Contains ks v → ⊥) → exponent v m ≡ 0)
    → IsFactorOf ks p (m, z)
IsFactorOf-signed ks p m D z h some positive divides greatest signed monomial known others =
    let size = size-signed (leading_coefficient p) D z signed in
    record {
      divides = subst (λ n. DividesAll n p) (sym size) divides;
      greatest = λ d all. subst (λ n. d ∣ n) (sym size) (greatest d all);
      sign = signs (leading_coefficient p) D z positive (nonzero_divisor p (unsigned_abs D) h some divides) signed;
      monomial = monomial;
      known_variables = known;
      other_variables = others;
    }

-- WHAT THE CODE COMPUTES
pub negated_number : (D z : ℤ) → FitsSigned w128 D → unsigned_abs D < 2 ^ 127 → z ≡ to_z w128 (of_z w128 (pos 0 -ℤ to_z w128 (of_z w128 D))) → z ≡ neg_ℤ D
negated_number D z f small e =
    let opposite : pos 0 -ℤ D ≡ neg_ℤ D = omega (arith, ints) in
    let fits : FitsSigned w128 (neg_ℤ D) = fits_signed_from_abs w128 (neg_ℤ D) (omega (arith, size-negated D, small)) in
    e ∙ ap (λ x. to_z w128 (of_z w128 (pos 0 -ℤ x))) (to_z-of_z w128 D f) ∙ ap (λ x. to_z w128 (of_z w128 x)) opposite ∙ to_z-of_z w128 (neg_ℤ D) fits

pub is_negative : (x : ℤ) → FitsSigned w128 x → int_lt (to_z w128 (of_z w128 x)) (pos 0) ≡ true → x <ℤ pos 0
is_negative x f e = let test : int_lt x (pos 0) ≡ true = sym (ap (λ y. int_lt y (pos 0)) (to_z-of_z w128 x f)) ∙ e in grind (arith, ints)

pub is_not_negative : (x : ℤ) → FitsSigned w128 x → int_lt (to_z w128 (of_z w128 x)) (pos 0) ≡ false → x <ℤ pos 0 → ⊥
is_not_negative x f e below = let test : int_lt x (pos 0) ≡ false = sym (ap (λ y. int_lt y (pos 0)) (to_z-of_z w128 x f)) ∙ e in grind (arith, ints)
