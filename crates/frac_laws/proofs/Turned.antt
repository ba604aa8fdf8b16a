-- Opposites and inverses of fractions in lowest terms.
use Rattle.std.proofs.Common.{◌≡◌, ℕ, suc, zero, ℤ, pos, negsuc, ◌*ℤ◌, neg_ℤ, unsigned_abs, [], ◌∷◌, refl, subst}
use Rattle.ring_laws.specs.Fraction.{negated, quotient, quotient_at, times, whole}
use Rattle.ring_laws.specs.Solver.{variable, numeral, ◌⊠◌, opposite, entry_at, given}
use Rattle.ring_laws.proofs.Combination.{by_combination}
use Rattle.ring_laws.proofs.Integers.{integers}
use Rattle.frac_laws.specs.declared.frac.Frac.{Frac}
use Rattle.frac_laws.specs.Numbers.{IsNumber, fraction_of}

pub opposite_number : (f r : Frac) → r.num *ℤ f.den ≡ neg_ℤ f.num *ℤ r.den → IsNumber r (negated (fraction_of f))
unfolding fraction_of negated
opposite_number f r e = record { crossed = subst (λ d. r.num *ℤ d ≡ neg_ℤ f.num *ℤ r.den) f.positive e }

-- the inverse of 0
zero_number : (f r : Frac) (n : ℤ) → n ≡ pos 0 → r.num *ℤ pos 1 ≡ pos 0 *ℤ r.den → r.num *ℤ pos (quotient_at (whole (pos 1)) n (unsigned_abs f.den)).denominator
    ≡ (quotient_at (whole (pos 1)) n (unsigned_abs f.den)).numerator *ℤ r.den
unfolding whole quotient_at
zero_number f r n z e = rw z e

pub inverse_of_zero : (f r : Frac) → f.num ≡ pos 0 → r.num *ℤ pos 1 ≡ pos 0 *ℤ r.den → IsNumber r (quotient (whole (pos 1)) (fraction_of f))
unfolding fraction_of quotient
inverse_of_zero f r z e = record { crossed = zero_number f r f.num z e }

-- n / d turned upside down is r
turned : (n a b : ℤ) (d : ℕ) → (n ≡ pos 0 → ⊥) → a *ℤ n ≡ pos d *ℤ b → a *ℤ pos (quotient_at (whole (pos 1)) n d).denominator ≡ (quotient_at (whole (pos 1)) n d).numerator *ℤ b
unfolding whole quotient_at
turned (pos zero) a b d h e = absurd (h refl)
turned (pos (suc k)) a b d h e =
    let v = variable in
    by_combination integers (entry_at integers (pos (suc k) ∷ a ∷ b ∷ pos d ∷ [])) (given (numeral 1) (v 1 ⊠ v 0) (v 3 ⊠ v 2) ∷ []) (v 1 ⊠ (numeral 1 ⊠ v 0)) (numeral 1 ⊠ v 3 ⊠ v 2) (e, tt) tt
turned (negsuc k) a b d h e =
    let v = variable in
    by_combination integers (entry_at integers (pos (suc k) ∷ a ∷ b ∷ pos d ∷ []))
    (given (opposite (numeral 1)) (v 1 ⊠ opposite (v 0)) (v 3 ⊠ v 2) ∷ []) (v 1 ⊠ (numeral 1 ⊠ v 0)) (opposite (numeral 1) ⊠ v 3 ⊠ v 2)
    (e, tt) tt

pub inverse_number : (f r : Frac) → (f.num ≡ pos 0 → ⊥) → r.num *ℤ f.num ≡ f.den *ℤ r.den → IsNumber r (quotient (whole (pos 1)) (fraction_of f))
unfolding fraction_of quotient
inverse_number f r h e = record { crossed = turned f.num r.num r.den (unsigned_abs f.den) h (subst (λ d. r.num *ℤ f.num ≡ d *ℤ r.den) f.positive e) }
