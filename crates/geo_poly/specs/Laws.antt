-- What the definitions mean.
use Rattle.std.specs.Prelude.{◌≡◌, ◌+◌, ◌↔◌, ◌+ℤ◌}
use Rattle.std.specs.declared.cmp.Ordering.TheVariants.{Equal, Greater}
use Rattle.geo_poly.specs.declared.variables.Var.{Var}
use Rattle.sparse_lists.specs.SparseLists.{IsCanonical}
use Rattle.geo_poly.specs.Variables.{var_cmp}
use Rattle.geo_poly.specs.Monomials.{Powers, IsMonomial, exponent, product, monomial_cmp, IsEarlier}
use Rattle.sparse_lists.specs.Coefficients.{coefficients}
use Rattle.geo_poly.specs.Polynomials.{Summands, term_cmp, coefficient, polynomial_of, sum_of}

-- variables that compare as equal are the same
abbrev pub OrderTellsVariables : Type 0
OrderTellsVariables = (v w : Var) → var_cmp v w ≡ Equal → v ≡ w

-- the polynomial of a list of terms is in order and has no zero, has the list's coefficients, and is the only such list
abbrev pub PolynomialHasCoefficients : Type 0
PolynomialHasCoefficients =
    (p : Summands) → IsCanonical term_cmp coefficients (polynomial_of p)
    × ((m : Powers) → coefficient m (polynomial_of p) ≡ coefficient m p)
    × ((q : Summands) → IsCanonical term_cmp coefficients q → ((m : Powers) → coefficient m q ≡ coefficient m p) → q ≡ polynomial_of p)

-- the coefficients of a sum are the sums of the coefficients
abbrev pub SumAddsCoefficients : Type 0
SumAddsCoefficients = (p q : Summands) (m : Powers) → coefficient m (sum_of p q) ≡ coefficient m p +ℤ coefficient m q

-- the exponents of a product are the sums of the exponents
abbrev pub ProductAddsExponents : Type 0
ProductAddsExponents = (m n : Powers) (v : Var) → exponent v (product m n) ≡ exponent v m + exponent v n

-- the order of monomials is by the first variable in whose exponents they differ
abbrev pub OrderIsByExponents : Type 0
OrderIsByExponents = (m n : Powers) → IsMonomial m → IsMonomial n → (monomial_cmp m n ≡ Greater) ↔ IsEarlier m n
