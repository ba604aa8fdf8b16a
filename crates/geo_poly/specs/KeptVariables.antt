-- What holds of each variable of some polynomials holds of each variable of what is made of them.
use Rattle.std.specs.Prelude.{◌≡◌, ℤ, None, List, [], ◌∷◌, Contains}
use Rattle.geo_poly.specs.declared.rows.Row.{Row}
use Rattle.geo_poly.specs.declared.variables.Var.{Var}
use Rattle.geo_poly.specs.Cuts.{IsCut}
use Rattle.geo_poly.specs.Monomials.{Powers}
use Rattle.geo_poly.specs.Polynomials.{Summands, difference_of, product_of, sum_of}
use Rattle.geo_poly.specs.PolynomialVariables.{AllVariables}
use Rattle.geo_poly.specs.Replace.{replaced_by, row_of}
use Rattle.geo_poly.specs.SortedVariables.{IsSorted}
use Rattle.geo_poly.specs.Specialise.{specialised}

-- each variable of each numerator has the property
abbrev pub AllNumerators : (Var → Type 0) → List Row → Type 0
AllNumerators Holds [] = Unit {0}
AllNumerators Holds (r ∷ rs) = AllVariables Holds r.num.poly × AllNumerators Holds rs

-- the property is kept; in a replacement only the variables that stay need to have it
pub record KeepsVariables (Holds : Var → Type 0) : Type 0 where
  pub sum : (p q : Summands) → AllVariables Holds p → AllVariables Holds q → AllVariables Holds (sum_of p q)
  pub difference : (p q : Summands) → AllVariables Holds p → AllVariables Holds q → AllVariables Holds (difference_of p q)
  pub product : (p q : Summands) → AllVariables Holds p → AllVariables Holds q → AllVariables Holds (product_of p q)
  pub replacement : (rows : List Row) (den p : Summands) → AllNumerators Holds rows → AllVariables Holds den
      → AllVariables (λ v. row_of rows v ≡ None → Holds v) p → AllVariables Holds (replaced_by rows den p)
  pub cut : (known : List Var) (f : Powers × ℤ) (p q : Summands) → IsCut known f p q → AllVariables Holds p → AllVariables Holds q
  pub specialisation : (v : Var) (z : ℤ) (p : Summands) → AllVariables Holds p → AllVariables Holds (specialised v z p)

-- LAWS
-- no variable is new: where each variable of what is given stands in a list, so does each variable of what is made
abbrev pub VariablesAreKept : Type 0
VariablesAreKept = (vs : List Var) → KeepsVariables (Contains vs)

-- of sorted variables only sorted ones come
abbrev pub SortedVariablesAreKept : Type 0
SortedVariablesAreKept = KeepsVariables IsSorted
