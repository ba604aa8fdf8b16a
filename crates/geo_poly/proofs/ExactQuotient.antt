-- Exact division of whole numbers, and of terms.
use lib.IntN as IntN
use Rattle.std.proofs.Common.{◌≡◌, ℕ, zero, suc, ◌+◌, ◌*◌, ◌/◌, ◌^◌, ◌<◌, ◌≤◌, inl, inr, ℤ, pos, negsuc, ◌+ℤ◌, ◌*ℤ◌, neg_ℤ, [], ◌∷◌, ◌++◌}
use Rattle.std.proofs.Common.{take, length, get_or, refl, sym, ap, ap₂, subst, ◌∙◌, unsigned_abs, FitsSigned, to_z, of_z, arith}
use Rattle.std.specs.Int.{w128}
use Rattle.std.specs.Int.RustNames.{int_div, int_rem}
use Rattle.std.proofs.Math.Nat.{div-le_self, mul-le-mul_left}
use Rattle.std.proofs.lemmas.Bool.{cases_lt}
use Rattle.std.proofs.lemmas.Int.{ints, to_z-of_z, quot-rem, rem_below, unsigned_abs-mul, fits_signed_from_abs}
use Rattle.std.proofs.lemmas.List.{map-append, take_more}
use Rattle.ring_laws.proofs.Laws as Laws
use Rattle.ring_laws.proofs.Integers as Integers
use Rattle.geo_poly.specs.Monomials.{Powers, product}
use Rattle.geo_poly.specs.Polynomials.{Summands, multiples}

abs_neg : (n : ℕ) → unsigned_abs (neg_ℤ (pos n)) ≡ n
abs_neg zero = refl
abs_neg (suc n) = refl

quotient-le : (a d : ℤ) → unsigned_abs (int_div a d) ≤ unsigned_abs a
quotient-le (pos a) (pos b) = div-le_self a b
quotient-le (pos a) (negsuc b) = omega (arith, abs_neg (a / suc b), div-le_self a (suc b))
quotient-le (negsuc a) (pos b) = omega (arith, abs_neg (suc a / b), div-le_self (suc a) b)
quotient-le (negsuc a) (negsuc b) = div-le_self (suc a) (suc b)

no_size : (a : ℤ) → unsigned_abs a ≡ 0 → a ≡ pos 0
no_size (pos n) e = ap pos e
no_size (negsuc n) e = absurd (omega (arith, e))

pub bits_positive : (d : ℤ) → FitsSigned w128 d → (unsigned_abs d ≡ 0 → ⊥) → 0 < of_z w128 d
bits_positive d f n = elim (cases_lt 0 (of_z w128 d)) [
  | inl h ↦ h
  | inr h ↦
      let none : of_z w128 d ≡ 0 = omega (arith, h) in
      absurd (n (ap unsigned_abs (sym (to_z-of_z w128 d f) ∙ ap (to_z w128) none)))
]

pub quotient_fits : (c d : ℤ) → FitsSigned w128 c → FitsSigned w128 d → unsigned_abs c < 2 ^ 127 → FitsSigned w128 (int_div (to_z w128 (of_z w128 c)) (to_z w128 (of_z w128 d)))
quotient_fits c d f g h =
    subst (FitsSigned w128) (sym (ap₂ int_div (to_z-of_z w128 c f) (to_z-of_z w128 d g))) (fits_signed_from_abs w128 (int_div c d) (omega (arith, h, quotient-le c d)))

small : (d r k : ℕ) → r ≡ d * k → r < d → r ≡ 0
small d r zero size lt = omega (arith, size)
small d r (suc k) size lt =
    let big : d * 1 ≤ d * suc k = mul-le-mul_left d (let one : 1 ≤ suc k = omega arith in one) in
    absurd (omega (arith, size, lt, big))

-- the remainder of a multiple
pub no_remainder : (c d q : ℤ) → (unsigned_abs d ≡ 0 → ⊥) → d *ℤ q ≡ c → int_rem c d ≡ pos 0
no_remainder c d q n e = go (unsigned_abs (q +ℤ neg_ℤ (int_div c d))) refl
  where
    apart : (a b r x y : ℤ) → b +ℤ r ≡ a → x ≡ a +ℤ y → y ≡ neg_ℤ b → x ≡ r
    apart a b r x y p s t = omega (arith, ints, p, s, t)

    go : (k : ℕ) → unsigned_abs (q +ℤ neg_ℤ (int_div c d)) ≡ k → int_rem c d ≡ pos 0
    go k is =
        let quotient = int_div c d in
        let remainder-is : d *ℤ (q +ℤ neg_ℤ (int_div c d)) ≡ int_rem c d =
        apart c (int_div c d *ℤ d) (int_rem c d) (d *ℤ (q +ℤ neg_ℤ (int_div c d))) (d *ℤ neg_ℤ (int_div c d)) (quot-rem c d)
        (Integers.mul-add d q (neg_ℤ (int_div c d)) ∙ ap (λ z. z +ℤ d *ℤ neg_ℤ (int_div c d)) e)
        (Laws.mul-neg Integers.integers d (int_div c d) ∙ ap neg_ℤ (IntN.*ℤ_comm d (int_div c d))) in
        let size : unsigned_abs (int_rem c d) ≡ unsigned_abs d * k = ap unsigned_abs (sym remainder-is) ∙ unsigned_abs-mul d (q +ℤ neg_ℤ (int_div c d)) ∙ ap (λ j. unsigned_abs d * j) is in
        let positive : 0 < unsigned_abs d = elim (cases_lt 0 (unsigned_abs d)) [ inl h ↦ h | inr h ↦ absurd (n (omega (arith, h))) ] in
        no_size (int_rem c d) (small (unsigned_abs d) (unsigned_abs (int_rem c d)) k size (rem_below c d positive))

-- A TERM OF A LIST OF MULTIPLES IS A MULTIPLE
multiple_in : {P : Type 0} (k : Powers × ℤ) (q : Summands) (i : ℕ) (t : Powers × ℤ) → i < length (multiples k q)
    → t ≡ get_or (multiples k q) i t → ((u : Powers × ℤ) → t ≡ (product k.0 u.0, k.1 *ℤ u.1) → P) → P
multiple_in k [] i t h e f = absurd (omega arith)
multiple_in k (u ∷ us) zero t h e f = f u e
multiple_in k (u ∷ us) (suc i) t h e f = multiple_in k us i t (omega arith) e f

pub multiple_at : {P : Type 0} (k : Powers × ℤ) (q p : Summands) (i : ℕ) (t : Powers × ℤ) → multiples k q ≡ p → i < length p
    → t ≡ get_or p i t → ((u : Powers × ℤ) → t ≡ (product k.0 u.0, k.1 *ℤ u.1) → P) → P
multiple_at k q p i t e h at f =
    multiple_in k q i t (subst (λ (x : Summands). i < length x) (sym e) h) (at ∙ ap (λ (x : Summands). get_or x i t) (sym e)) f

pub multiples_push : (k : Powers × ℤ) (q p : Summands) (i : ℕ) (t u : Powers × ℤ) → multiples k q ≡ take i p → i < length p
    → t ≡ get_or p i t → product k.0 u.0 ≡ t.0 → k.1 *ℤ u.1 ≡ t.1 → multiples k (q ++ u ∷ []) ≡ take (i + 1) p
multiples_push k q p i t u e h at m c =
    map-append (λ (u : Powers × ℤ). (product k.0 u.0, k.1 *ℤ u.1)) q (u ∷ [])
    ∙ ap₂ (λ (xs : Summands) (x : Powers × ℤ). xs ++ x ∷ []) e (ap₂ (λ (a : Powers) (b : ℤ). (a, b)) m c ∙ at)
    ∙ sym (take_more p i t h)
