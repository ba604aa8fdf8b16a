-- Lowest terms.
use Rattle.std.specs.Prelude.{◌≡◌, Bool, true, false, ℕ, ◌≤◌, ◌^◌, ℤ, pos, neg_ℤ, ◌*ℤ◌, unsigned_abs}
use Rattle.std.specs.Int.{IsGcd}

-- no number but 1 divides both the numerator and the denominator
abbrev pub IsLowest : ℤ → ℕ → Type 0
IsLowest n d = IsGcd (unsigned_abs n) d 1

-- past the greatest number
abbrev pub IsPast : ℤ → Type 0
IsPast z = 2 ^ 127 ≤ unsigned_abs z

-- the number with a sign: below 0 where it is negative
abbrev pub signed_by : Bool → ℕ → ℤ
signed_by true n = neg_ℤ (pos n)
signed_by false n = pos n

-- LAWS
-- two fractions of one number in lowest terms are the same, and lowest terms are least
pub record LowestTermsAreUnique : Type 0 where
  pub unique : (n m : ℤ) (d e : ℕ) → 1 ≤ d → 1 ≤ e → IsLowest n d → IsLowest m e → n *ℤ pos e ≡ m *ℤ pos d → (n ≡ m) × (d ≡ e)
  pub least : (n m : ℤ) (d e : ℕ) → 1 ≤ d → 1 ≤ e → IsLowest n d → n *ℤ pos e ≡ m *ℤ pos d → (d ≤ e) × (unsigned_abs n ≤ unsigned_abs m)
