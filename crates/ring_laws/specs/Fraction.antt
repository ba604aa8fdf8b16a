-- Fractions: a whole number over a natural number of at least 1.
use Rattle.std.specs.Prelude.{◌≡◌, ℕ, zero, suc, ◌*◌, ◌<◌, ℤ, pos, negsuc, ◌+ℤ◌, ◌*ℤ◌, neg_ℤ}
use Rattle.std.proofs.Common.{mul-pos, lit<, zero-lt-suc}

-- the number numerator / denominator, which need not be in lowest terms
pub record Fraction : Type 0 where
  pub numerator : ℤ
  pub denominator : ℕ
  pub positive : 0 < denominator

-- a and b are the same number, by cross multiplication
pub record Same (a b : Fraction) : Type 0 where
  pub crossed : a.numerator *ℤ pos b.denominator ≡ b.numerator *ℤ pos a.denominator

-- a whole number as a fraction
unfoldable pub whole : ℤ → Fraction
whole z = record { numerator = z; denominator = 1; positive = lit< tt }

-- a + b
unfoldable pub plus : Fraction → Fraction → Fraction
plus a b = record {
  numerator = a.numerator *ℤ pos b.denominator +ℤ b.numerator *ℤ pos a.denominator;
  denominator = a.denominator * b.denominator;
  positive = mul-pos a.positive b.positive;
}

-- - a
unfoldable pub negated : Fraction → Fraction
negated a = record { numerator = neg_ℤ a.numerator; denominator = a.denominator; positive = a.positive }

-- a - b
unfoldable pub minus : Fraction → Fraction → Fraction
minus a b = plus a (negated b)

-- a b
unfoldable pub times : Fraction → Fraction → Fraction
times a b =
    record { numerator = a.numerator *ℤ b.numerator; denominator = a.denominator * b.denominator; positive = mul-pos a.positive b.positive }

-- a is not 0
abbrev pub IsNonzero : Fraction → Type 0
IsNonzero a = a.numerator ≡ pos 0 → ⊥

-- a divided by n / d, by the sign of n, which goes to the numerator. It means something where n is not 0, and else it is set to 0
unfoldable pub quotient_at : Fraction → ℤ → ℕ → Fraction
quotient_at a (pos zero) d = whole (pos 0)
quotient_at a (pos (suc k)) d =
    record { numerator = a.numerator *ℤ pos d; denominator = a.denominator * suc k; positive = mul-pos a.positive (zero-lt-suc k) }
quotient_at a (negsuc k) d =
    record { numerator = neg_ℤ a.numerator *ℤ pos d; denominator = a.denominator * suc k; positive = mul-pos a.positive (zero-lt-suc k) }

-- a / b, where b is not 0
unfoldable pub quotient : Fraction → Fraction → Fraction
quotient a b = quotient_at a b.numerator b.denominator
