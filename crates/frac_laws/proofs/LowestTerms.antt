-- Lowest terms are the least terms of a number, and the only ones of their kind.
use Rattle.std.proofs.Common.{◌≡◌, ℕ, zero, suc, ◌*◌, ◌≤◌, ℤ, pos, ◌*ℤ◌, sym, subst, ap, ◌∙◌, unsigned_abs, arith}
use Rattle.std.specs.Int.{◌∣◌}
use Rattle.std.proofs.lemmas.Int.{unsigned_abs-mul}
use Rattle.std.proofs.lemmas.Nat.Gcd.{IsGcd-swap, dvd_antisymm, le_of_dvd}
use Rattle.std.proofs.Math.Nat.{dvd-mul_left, mul_comm}
use Rattle.ring_laws.proofs.Fractions.{cancel}
use Rattle.frac_laws.specs.Lowest.{IsLowest, LowestTermsAreUnique}
use Rattle.frac_laws.proofs.Coprime.{euclid}

sizes : (n m : ℤ) (d e : ℕ) → n *ℤ pos e ≡ m *ℤ pos d → unsigned_abs n * e ≡ unsigned_abs m * d
sizes n m d e h = sym (unsigned_abs-mul n (pos e)) ∙ ap unsigned_abs h ∙ unsigned_abs-mul m (pos d)

-- the denominator in lowest terms divides every other, and the numerator too
pub denominator_divides : (n m : ℤ) (d e : ℕ) → IsLowest n d → n *ℤ pos e ≡ m *ℤ pos d → d ∣ e
denominator_divides n m d e low h =
    euclid d (unsigned_abs n) e (IsGcd-swap (unsigned_abs n) d 1 low)
    (subst (λ (k : ℕ). d ∣ k) (sym (sizes n m d e h)) (dvd-mul_left d (unsigned_abs m)))

pub numerator_divides : (n m : ℤ) (d e : ℕ) → IsLowest n d → n *ℤ pos e ≡ m *ℤ pos d → unsigned_abs n ∣ unsigned_abs m
numerator_divides n m d e low h =
    euclid (unsigned_abs n) d (unsigned_abs m) low
    (subst (λ (k : ℕ). unsigned_abs n ∣ k) (mul_comm e (unsigned_abs n) ∙ sizes n m d e h ∙ mul_comm (unsigned_abs m) d) (dvd-mul_left (unsigned_abs n) e))

least_numerator : (a b d e : ℕ) → 1 ≤ e → a ∣ b → a * e ≡ b * d → a ≤ b
least_numerator zero b d e s h same = omega arith
least_numerator (suc a) zero d e s h same = absurd (empty e s same)
  where
    empty : (e : ℕ) → 1 ≤ e → suc a * e ≡ zero * d → ⊥
    empty zero s same = omega arith
    empty (suc e) s same = omega arith
least_numerator (suc a) (suc b) d e s h same = le_of_dvd (omega arith) h

pub lowest_terms_are_unique : LowestTermsAreUnique
lowest_terms_are_unique = record {
  unique = λ n m d e s t low other h.
      let same : d ≡ e = dvd_antisymm (denominator_divides n m d e low h) (denominator_divides m n e d other (sym h)) in
      (cancel n m e t (h ∙ ap (λ (k : ℕ). m *ℤ pos k) same), same);
  least = λ n m d e s t low h. (
    le_of_dvd t (denominator_divides n m d e low h),
    least_numerator (unsigned_abs n) (unsigned_abs m) d e t (numerator_divides n m d e low h) (sizes n m d e h),
  );
}
