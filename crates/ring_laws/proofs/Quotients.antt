-- Fractions other than 0, and quotients.
use native.Mathlib.Nat as NatL
use borrow.Author.Differences.{up, down, same_in, product_is}
use Rattle.std.proofs.Common.{◌≡◌, ℕ, zero, suc, ◌+◌, ◌*◌, ◌<◌, ℤ, pos, negsuc, ◌+ℤ◌, ◌*ℤ◌, neg_ℤ, nat_abs, refl, sym, ◌∙◌, ap, arith, [], ◌∷◌, zero-lt-suc, mul-pos}
use Rattle.ring_laws.specs.Solver.{variable, numeral, ◌⊠◌, opposite, entry_at, given}
use Rattle.ring_laws.specs.Fraction.{Fraction, Same, whole, minus, times, IsNonzero, quotient, quotient_at, plus, negated}
use Rattle.ring_laws.proofs.Integers.{integers}
use Rattle.ring_laws.proofs.Fractions.{cancel}
use Rattle.ring_laws.proofs.Sound.{agree}
use Rattle.ring_laws.proofs.Combination.{by_combination}

-- a factor that is not 0, of either sign, cancels
pub cancel_factor : (x y d : ℤ) → (d ≡ pos 0 → ⊥) → x *ℤ d ≡ y *ℤ d → x ≡ y
cancel_factor x y (pos zero) n e = absurd (n refl)
cancel_factor x y (pos (suc k)) n e = cancel x y (suc k) (zero-lt-suc k) e
cancel_factor x y (negsuc k) n e =
    let a : down x * suc k ≡ down y * suc k = omega (arith, product_is x (negsuc k), product_is y (negsuc k), ap up e) in
    let b : up x * suc k ≡ up y * suc k = omega (arith, product_is x (negsuc k), product_is y (negsuc k), ap down e) in
    let p : down x ≡ down y = NatL.eq_of_mul-eq-mul_right (suc k) (zero-lt-suc k) (down x) (down y) a in
    let q : up x ≡ up y = NatL.eq_of_mul-eq-mul_right (suc k) (zero-lt-suc k) (up x) (up y) b in
    same_in x y (omega arith)

pub zero_of_same : (a : Fraction) → Same a (whole (pos 0)) → a.numerator ≡ pos 0
unfolding whole plus negated times minus quotient quotient_at
zero_of_same a h =
    let n = variable 0 in let d = variable 1 in
    by_combination integers (entry_at integers (a.numerator ∷ pos a.denominator ∷ [])) (given (numeral 1) (n ⊠ numeral 1) (numeral 0 ⊠ d) ∷ []) n (numeral 0) (h.crossed, tt) tt

pub same_of_zero : (a : Fraction) → a.numerator ≡ pos 0 → Same a (whole (pos 0))
unfolding whole plus negated times minus quotient quotient_at
same_of_zero a h =
    let n = variable 0 in let d = variable 1 in
    record { crossed = by_combination integers (entry_at integers (a.numerator ∷ pos a.denominator ∷ [])) (given (numeral 1) n (numeral 0) ∷ []) (n ⊠ numeral 1) (numeral 0 ⊠ d) (h, tt) tt }

pub cancel_fraction : (a b c : Fraction) → IsNonzero c → Same (times a c) (times b c) → Same a b
unfolding whole plus negated times minus quotient quotient_at
cancel_fraction a b c n h =
    let an = variable 0 in let ad = variable 1 in let bn = variable 2 in let bd = variable 3 in let cn = variable 4 in let cd = variable 5 in
    record {
      crossed = cancel_factor (a.numerator *ℤ pos b.denominator) (b.numerator *ℤ pos a.denominator) c.numerator n
          (cancel (a.numerator *ℤ pos b.denominator *ℤ c.numerator) (b.numerator *ℤ pos a.denominator *ℤ c.numerator) c.denominator c.positive
          (by_combination integers (entry_at integers (a.numerator ∷ pos a.denominator ∷ b.numerator ∷ pos b.denominator ∷ c.numerator ∷ pos c.denominator ∷ []))
          (given (numeral 1) (an ⊠ cn ⊠ (bd ⊠ cd)) (bn ⊠ cn ⊠ (ad ⊠ cd)) ∷ [])
          (an ⊠ bd ⊠ cn ⊠ cd) (bn ⊠ ad ⊠ cn ⊠ cd) (h.crossed, tt) tt));
    }

-- a sum of two squares is 0 only where both are
abs_square : (a : ℤ) → a *ℤ a ≡ pos (nat_abs a * nat_abs a)
abs_square (pos n) = refl
abs_square (negsuc n) = refl

null_of_abs : (a : ℤ) → nat_abs a ≡ 0 → a ≡ pos 0
null_of_abs (pos n) e = ap pos e
null_of_abs (negsuc n) e = absurd (omega arith)

root : (k : ℕ) → k * k ≡ 0 → k ≡ 0
root zero e = refl
root (suc k) e = let h : 0 < suc k * suc k = mul-pos (zero-lt-suc k) (zero-lt-suc k) in absurd (omega arith)

to_ℕ : ℤ → ℕ
to_ℕ (pos n) = n
to_ℕ (negsuc n) = n

pub both_null : (a b : ℤ) → a *ℤ a +ℤ b *ℤ b ≡ pos 0 → (a ≡ pos 0) × (b ≡ pos 0)
unfolding to_ℕ
both_null a b e =
    let s : pos (nat_abs a * nat_abs a + nat_abs b * nat_abs b) ≡ pos 0 = sym (λ t. abs_square a t +ℤ abs_square b t) ∙ e in
    let n : nat_abs a * nat_abs a + nat_abs b * nat_abs b ≡ 0 = ap to_ℕ s in
    (null_of_abs a (root (nat_abs a) (omega arith)), null_of_abs b (root (nat_abs b) (omega arith)))

-- ---- quotients
pub quotient-times : (a b : Fraction) → IsNonzero b → Same (times (quotient a b) b) a
unfolding whole plus negated times minus quotient quotient_at
quotient-times a b n = record { crossed = go b.numerator b.denominator n }
  where
    go : (m : ℤ) (e : ℕ) → (m ≡ pos 0 → ⊥) → (quotient_at a m e).numerator *ℤ m *ℤ pos a.denominator ≡ a.numerator *ℤ pos ((quotient_at a m e).denominator * e)
    go (pos zero) e n = absurd (n refl)
    go (pos (suc k)) e n =
        let an = variable 0 in let ad = variable 1 in let m = variable 2 in let be = variable 3 in
        agree integers (entry_at integers (a.numerator ∷ pos a.denominator ∷ pos (suc k) ∷ pos e ∷ [])) (an ⊠ be ⊠ m ⊠ ad) (an ⊠ (ad ⊠ m ⊠ be)) tt
    go (negsuc k) e n =
        let an = variable 0 in let ad = variable 1 in let m = variable 2 in let be = variable 3 in
        let flipped : negsuc k ≡ neg_ℤ (pos (suc k)) = refl in
        agree integers (entry_at integers (a.numerator ∷ pos a.denominator ∷ pos (suc k) ∷ pos e ∷ [])) (opposite an ⊠ be ⊠ opposite m ⊠ ad) (an ⊠ (ad ⊠ m ⊠ be)) tt
