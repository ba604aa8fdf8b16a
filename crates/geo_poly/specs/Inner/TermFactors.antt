-- The factors of a term that is replaced: whether one is zero, and how many products of monomials their powers take.
use Rattle.std.specs.Prelude.{◌≢◌, ℕ, zero, suc, ◌+◌, ◌*◌, ◌^◌, Option, Some, None, List, [], ◌∷◌}
use Rattle.geo_poly.specs.declared.rows.Row.{Row}
use Rattle.geo_poly.specs.Monomials.{Powers}
use Rattle.geo_poly.specs.Replace.{row_of}

-- the numerator is not zero, where there is a row
abbrev pub IsNonzeroRow : Option Row → Type 0
IsNonzeroRow None = Unit {0}
IsNonzeroRow (Some r) = r.num.poly ≢ []

-- no numerator is zero
abbrev pub AreNonzeroRows : List Row → Powers → Type 0
AreNonzeroRows rows [] = Unit {0}
AreNonzeroRows rows (v ∷ m) = IsNonzeroRow (row_of rows v.0) × AreNonzeroRows rows m

-- the products of monomials where a polynomial of n monomials is multiplied c times by one of at most k
abbrev pub power_products : ℕ → ℕ → ℕ → ℕ
power_products n k zero = 0
power_products n k (suc c) = power_products n k c + n * k ^ c * k
