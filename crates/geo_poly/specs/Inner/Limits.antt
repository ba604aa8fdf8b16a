-- Bounds of the exponents that products and replacements can have, which are known before anything is multiplied out.
use Rattle.std.specs.Prelude.{◌≡◌, ℕ, ◌+◌, ◌-◌, ◌*◌, ◌^◌, ◌<◌, ◌≤◌, max, min, List, [], ◌∷◌, length, slice_index_or}
use Rattle.geo_poly.specs.declared.rows.Piece.{Piece}
use Rattle.geo_poly.specs.declared.rows.Row.{Row}
use Rattle.geo_poly.specs.declared.term_limits.ExponentLimits.{ExponentLimits}
use Rattle.geo_poly.specs.declared.variables.Var.{Var}
use Rattle.geo_poly.specs.Inner.Keyed.{greatest_exponent, greatest_of_rows}
use Rattle.geo_poly.specs.Inner.ReplacedExponents.{exponent_bound}
use Rattle.mono_store.specs.Words.{Limits, limit}
use Rattle.geo_poly.specs.Monomials.{Powers, exponent}
use Rattle.geo_poly.specs.Polynomials.{Summands}
use Rattle.geo_poly.specs.Shared.{var_at}

-- no exponent of the polynomial is above that of its variable in the list
pub record AreBounds (p : Summands) (bounds : Powers) : Type 0 where
  pub each : (v : Var) → greatest_exponent v p ≤ exponent v bounds

-- no exponent of the monomial is above the number at the place of its variable
pub record IsBelow (vars : List Var) (numbers : List ℕ) (m : Powers) : Type 0 where
  pub each : (i : ℕ) → i < length vars → exponent (var_at vars i) m ≤ slice_index_or numbers i 0

-- nor is one of the polynomial
pub record AreGreatest (vars : List Var) (numbers : List ℕ) (p : Summands) : Type 0 where
  pub each : (i : ℕ) → i < length vars → greatest_exponent (var_at vars i) p ≤ slice_index_or numbers i 0

-- the greatest exponents of the variable in the numerators, each as often as the exponent of its row's variable says, and at least once
abbrev pub exponents_of_rows : Var → List Row → Powers → ℕ
exponents_of_rows v [] own = 0
exponents_of_rows v (r ∷ rs) own = greatest_exponent v r.num.poly * max 1 (exponent r.var own) + exponents_of_rows v rs own

-- the greatest exponent of the variable in the pieces, and in what becomes of the polynomial
abbrev pub exponent_anywhere : Var → List Row → Piece → ℕ → Summands → ℕ
exponent_anywhere v rows den top p = max (exponent_bound v rows den top p) (max (greatest_of_rows v rows) (greatest_exponent v den.poly))

-- the limit of each variable is at least its bound, or the greatest number of 32 bits
pub record AreLimits (vars : List Var) (bound : Var → ℕ) (limits : List ℕ) : Type 0 where
  pub whole : length limits ≡ length vars
  pub each : (i : ℕ) → i < length vars → min (bound (var_at vars i)) (2 ^ 32 - 1) ≤ slice_index_or limits i 0

-- each of these has limits for the numerator of its row
abbrev pub AreLimitsOfRows : List Var → List Row → List ExponentLimits → Type 0
AreLimitsOfRows vars [] [] = Unit {0}
AreLimitsOfRows vars [] (num ∷ nums) = ⊥
AreLimitsOfRows vars (row ∷ rows) [] = ⊥
AreLimitsOfRows vars (row ∷ rows) (num ∷ nums) =
    AreLimits vars (λ v. greatest_exponent v row.num.poly) num.items.items × AreLimitsOfRows vars rows nums

-- the digit of each variable has room for its bound
pub record HaveRoom (vars : List Var) (limits : Limits) (bound : Var → ℕ) : Type 0 where
  pub whole : length limits ≡ length vars
  pub each : (i : ℕ) → i < length vars → bound (var_at vars i) ≤ limit limits i
