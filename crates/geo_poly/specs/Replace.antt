-- What becomes of a polynomial when variables are replaced at once, each by a numerator over a power of one denominator.
use Rattle.std.specs.Prelude.{ℕ, zero, suc, ◌+◌, ◌*◌, ◌-◌, ◌^◌, ◌<◌, ◌≤◌, max, ℤ, pos, Option, Some, None, List, [], ◌∷◌, ◌++◌}
use Rattle.std.specs.Prelude.{find, length, sum_by, unsigned_abs}
use Rattle.std.specs.Ordering.{is_eq}
use Rattle.geo_poly.specs.declared.variables.Var.{Var}
use Rattle.geo_poly.specs.declared.rows.Piece.{Piece}
use Rattle.geo_poly.specs.declared.rows.Row.{Row}
use Rattle.geo_poly.specs.Variables.{var_cmp}
use Rattle.sparse_lists.specs.SparseLists.{AllKeys, IsCanonical}
use Rattle.geo_poly.specs.Monomials.{Powers, IsMonomial, degree_of}
use Rattle.sparse_lists.specs.Coefficients.{coefficients}
use Rattle.geo_poly.specs.Polynomials.{Summands, term_cmp, constant_of, polynomial_of, norm_of, total_degree, product_of}

-- the bounds that a piece tells are such, and its count is at most its weight, as each monomial has a coefficient of at least 1
pub record IsBounded (piece : Piece) : Type 0 where
  pub norm : norm_of piece.poly ≤ piece.weight
  pub count : length piece.poly ≤ piece.count
  pub degree : total_degree piece.poly ≤ piece.degree
  pub light : piece.count ≤ piece.weight
  pub weight : 1 ≤ piece.weight

-- the first row of a variable
abbrev pub row_of : List Row → Var → Option Row
row_of rows v = find (λ r. is_eq (var_cmp r.var v)) rows

-- the power of the denominator that a variable calls for
abbrev pub power_in : Option Row → ℕ
power_in None = 0
power_in (Some r) = r.power

-- the denominators of a monomial: the powers of its replaced variables times their exponents
abbrev pub denominators : List Row → Powers → ℕ
denominators rows [] = 0
denominators rows (p ∷ m) = power_in (row_of rows p.0) * p.1 + denominators rows m

-- the greatest number of denominators of a monomial
abbrev pub most_denominators : List Row → Summands → ℕ
most_denominators rows [] = 0
most_denominators rows (t ∷ ts) = max (denominators rows t.0) (most_denominators rows ts)

-- a power stays where its variable has no row
abbrev pub kept : Option Row → Var × ℕ → Powers → Powers
kept None p m = p ∷ m
kept (Some r) p m = m

-- the variables that stay
abbrev pub others : List Row → Powers → Powers
others rows [] = []
others rows (p ∷ m) = kept (row_of rows p.0) p (others rows m)

-- q to the power n
abbrev pub power_of : Summands → ℕ → Summands
power_of q zero = constant_of (pos 1)
power_of q (suc n) = product_of q (power_of q n)

-- the row's numerator to the power n, 1 where there is no row
abbrev pub numerator_power : Option Row → ℕ → Summands
numerator_power None n = constant_of (pos 1)
numerator_power (Some r) n = power_of r.num.poly n

-- the product of the numerators of the replaced variables, each to its exponent
abbrev pub numerators : List Row → Powers → Summands
numerators rows [] = constant_of (pos 1)
numerators rows (p ∷ m) = product_of (numerator_power (row_of rows p.0) p.1) (numerators rows m)

-- a term: its coefficient and other variables, times the numerators, times the denominators that it lacks
abbrev pub replaced_term : List Row → Summands → ℕ → Powers × ℤ → Summands
replaced_term rows den top t =
    product_of (product_of ((others rows t.0, t.1) ∷ []) (numerators rows t.0)) (power_of den (top - denominators rows t.0))

-- what becomes of each term, one after another
abbrev pub replaced_terms : List Row → Summands → ℕ → Summands → Summands
replaced_terms rows den top [] = []
replaced_terms rows den top (t ∷ ts) = replaced_term rows den top t ++ replaced_terms rows den top ts

-- what becomes of the polynomial: the sum over its terms, with the denominators of the one that calls for most
abbrev pub replaced_by : List Row → Summands → Summands → Summands
replaced_by rows den p = polynomial_of (replaced_terms rows den (most_denominators rows p) p)

-- each numerator keeps its bounds
abbrev pub AllBounded : List Row → Type 0
AllBounded [] = Unit {0}
AllBounded (r ∷ rs) = IsBounded r.num × AllBounded rs

-- w times the weight of the row's numerator to the power n
abbrev pub weight_row : Option Row → ℕ → ℕ → ℕ
weight_row None n w = w
weight_row (Some r) n w = w * r.num.weight ^ n

-- w times the weights of the numerators
abbrev pub weight_rows : List Row → Powers → ℕ → ℕ
weight_rows rows [] w = w
weight_rows rows (v ∷ m) w = weight_rows rows m (weight_row (row_of rows v.0) v.1 w)

-- the weight of what becomes of a term: it bounds the norm
abbrev pub term_weight : List Row → Piece → ℕ → Powers × ℤ → ℕ
term_weight rows den top t = weight_rows rows t.0 (unsigned_abs t.1) * den.weight ^ (top - denominators rows t.0)

-- d plus n times the degree of the row's numerator
abbrev pub degree_row : Option Row → ℕ → ℕ → ℕ
degree_row None n d = d
degree_row (Some r) n d = d + r.num.degree * n

-- d plus the degrees of the numerators
abbrev pub degree_rows : List Row → Powers → ℕ → ℕ
degree_rows rows [] d = d
degree_rows rows (v ∷ m) d = degree_rows rows m (degree_row (row_of rows v.0) v.1 d)

-- the degree of what becomes of a term
abbrev pub term_degree : List Row → Piece → ℕ → Powers × ℤ → ℕ
term_degree rows den top t = degree_rows rows t.0 (degree_of (others rows t.0)) + den.degree * (top - denominators rows t.0)

-- the sum of the weights of the terms
abbrev pub weight_of : List Row → Piece → ℕ → Summands → ℕ
weight_of rows den top p = sum_by (term_weight rows den top) p

-- the greatest degree of the terms
abbrev pub degree_bound : List Row → Piece → ℕ → Summands → ℕ
degree_bound rows den top [] = 0
degree_bound rows den top (t ∷ ts) = max (term_degree rows den top t) (degree_bound rows den top ts)

-- where a replacement may be made
pub record CanReplace (rows : List Row) (den : Piece) (top : ℕ) (p : Summands) : Type 0 where
  pub rows_bounded : AllBounded rows
  pub den_bounded : IsBounded den
  pub in_order : IsCanonical term_cmp coefficients p
  pub monomials : AllKeys IsMonomial p
  pub top_fits : most_denominators rows p ≤ top
  pub weight_fits : weight_of rows den top p < 2 ^ 127
  pub degree_fits : degree_bound rows den top p ≤ 65535

-- each power of the denominator is at most 2
abbrev pub AllPowersSmall : List Row → Type 0
AllPowersSmall [] = Unit {0}
AllPowersSmall (r ∷ rs) = (r.power ≤ 2) × AllPowersSmall rs

-- the weight of the whole
abbrev pub replaced_weight : List Row → Piece → Summands → ℕ
replaced_weight rows den p = weight_of rows den (most_denominators rows p) p

-- the degree of the whole
abbrev pub replaced_degree : List Row → Piece → Summands → ℕ
replaced_degree rows den p = degree_bound rows den (most_denominators rows p) p
