-- The numbers that fractions in lowest terms are, and where their sums and products are refused.
use Rattle.std.specs.Prelude.{◌≡◌, ℕ, ◌/◌, ◌≤◌, ◌⊎◌, ℤ, pos, ◌+ℤ◌, ◌*ℤ◌, unsigned_abs}
use Rattle.std.specs.Int.{IsGcd}
use Rattle.ring_laws.specs.Fraction.{Fraction}
use Rattle.frac_laws.specs.declared.frac.Frac.{Frac}
use Rattle.frac_laws.specs.Lowest.{IsLowest, IsPast}

-- the fraction that it is
unfoldable pub fraction_of : Frac → Fraction
fraction_of f = record { numerator = f.num; denominator = unsigned_abs f.den; positive = f.nonzero }

-- r is the number a
pub record IsNumber (r : Frac) (a : Fraction) : Type 0 where
  pub crossed : r.num *ℤ pos a.denominator ≡ a.numerator *ℤ r.den

-- both are the same number
abbrev pub IsSameNumber : Frac → Frac → Type 0
IsSameNumber f h = f.num *ℤ h.den ≡ h.num *ℤ f.den

-- of two numerators and a denominator: one of the three, or the sum of the numerators, is too large
abbrev pub AreSomePast : ℤ → ℤ → ℤ → Type 0
AreSomePast left right den = IsPast left ⊎ (IsPast right ⊎ (IsPast (left +ℤ right) ⊎ IsPast den))

-- a / b + c / d is refused: with g the greatest common divisor of b and d, one of a (d / g), c (b / g), their sum and b (d / g) is too
-- large
abbrev pub IsSumTooLarge : Frac → Frac → Type 0
IsSumTooLarge f h =
    (g : ℕ) × IsGcd (unsigned_abs f.den) (unsigned_abs h.den) g
    × AreSomePast (f.num *ℤ pos (unsigned_abs h.den / g)) (h.num *ℤ pos (unsigned_abs f.den / g)) (f.den *ℤ pos (unsigned_abs h.den / g))

-- a / b times c / d is refused: in lowest terms its numerator or its denominator is too large
abbrev pub IsProductTooLarge : Frac → Frac → Type 0
IsProductTooLarge f h =
    (n : ℤ) × (d : ℕ) × IsLowest n d × (1 ≤ d) × (n *ℤ (f.den *ℤ h.den) ≡ f.num *ℤ h.num *ℤ pos d) × (IsPast n ⊎ IsPast (pos d))
