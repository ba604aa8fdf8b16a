-- The exponents of a variable in what becomes of a polynomial, at most: with the greatest ones of the pieces.
use Rattle.std.specs.Prelude.{ℕ, ◌+◌, ◌-◌, ◌*◌, ◌<◌, ◌≤◌, max, IfSome, ℤ, Option, Some, None, List, [], ◌∷◌, length}
use Rattle.geo_poly.specs.declared.rows.Piece.{Piece}
use Rattle.geo_poly.specs.declared.rows.Row.{Row}
use Rattle.geo_poly.specs.declared.variables.Var.{Var}
use Rattle.geo_poly.specs.Monomials.{Powers, exponent}
use Rattle.geo_poly.specs.Polynomials.{Summands}
use Rattle.geo_poly.specs.Replace.{denominators, others, row_of}
use Rattle.geo_poly.specs.Inner.Keyed.{greatest_exponent}
use Rattle.geo_poly.specs.Keys.{Keys}
use Rattle.geo_poly.specs.Shared.{var_at}

-- e plus n times the greatest exponent of the variable in the row's numerator
abbrev pub exponent_in_row : Var → Option Row → ℕ → ℕ → ℕ
exponent_in_row v None n e = e
exponent_in_row v (Some r) n e = e + greatest_exponent v r.num.poly * n

-- e plus the greatest exponents of the variable in the numerators
abbrev pub exponent_in_rows : Var → List Row → Powers → ℕ → ℕ
exponent_in_rows v rows [] e = e
exponent_in_rows v rows (p ∷ m) e = exponent_in_rows v rows m (exponent_in_row v (row_of rows p.0) p.1 e)

-- the exponent of the variable in what becomes of a term
abbrev pub term_exponent : Var → List Row → Piece → ℕ → Powers × ℤ → ℕ
term_exponent v rows den top t = exponent_in_rows v rows t.0 (exponent v (others rows t.0)) + greatest_exponent v den.poly * (top - denominators rows t.0)

-- the greatest one of the terms
abbrev pub exponent_bound : Var → List Row → Piece → ℕ → Summands → ℕ
exponent_bound v rows den top [] = 0
exponent_bound v rows den top (t ∷ ts) = max (term_exponent v rows den top t) (exponent_bound v rows den top ts)

-- what becomes of the polynomial has no exponent above its limit
abbrev pub IsReplacedInReach : List Var → Keys → List Row → Piece → ℕ → Summands → Type 0
IsReplacedInReach vars keys rows den top p =
    IfSome keys.limits (λ limit. (i : ℕ) → i < length vars → exponent_bound (var_at vars i) rows den top p ≤ limit i)
