-- A polynomial: its monomials with nonzero whole numbers, the greatest monomial first.
use Rattle.std.specs.Prelude.{ℕ, ◌+◌, ◌*◌, ◌^◌, ◌<◌, ◌≤◌, max, ℤ, pos, ◌*ℤ◌, neg_ℤ, List, [], ◌∷◌, ◌++◌, map, slice_index_or, sum_by, unsigned_abs}
use Rattle.std.specs.Ordering.{flip_args}
use Rattle.std.specs.declared.cmp.Ordering.{Ordering}
use Rattle.sparse_lists.specs.Coefficients.{coefficients}
use Rattle.sparse_lists.specs.SparseLists.{AllKeys, IsCanonical, amount, canonical, put}
use Rattle.geo_poly.specs.Monomials.{Powers, IsMonomial, degree_of, monomial_cmp, product}

-- monomials with their coefficients
abbrev pub Summands : Type 0
Summands = List (Powers × ℤ)

-- `Less` at the monomial that stands first, which is the greater one
abbrev pub term_cmp : Powers → Powers → Ordering
term_cmp = flip_args monomial_cmp

-- the coefficient of a monomial, 0 where it is absent
abbrev pub coefficient : Powers → Summands → ℤ
coefficient = amount term_cmp coefficients

-- the polynomial with the same coefficient at each monomial
abbrev pub polynomial_of : Summands → Summands
polynomial_of = canonical term_cmp coefficients

-- the term at a place; past the end, the number 0
abbrev pub term_at : Summands → ℕ → Powers × ℤ
term_at p i = slice_index_or p i ([], pos 0)

-- the sum of the absolute coefficients
abbrev pub norm_of : Summands → ℕ
norm_of p = sum_by (λ t. unsigned_abs t.1) p

-- the greatest degree of a monomial, 0 where there is none
abbrev pub total_degree : Summands → ℕ
total_degree [] = 0
total_degree (t ∷ ts) = max (degree_of t.0) (total_degree ts)

-- the monomials in order, each with a coefficient that is not 0, and the norm within its bound
pub record IsPolynomial (p : Summands) : Type 0 where
  pub in_order : IsCanonical term_cmp coefficients p
  pub monomials : AllKeys IsMonomial p
  pub norm_fits : norm_of p < 2 ^ 127

-- the constant n, which has no term where n is 0
abbrev pub constant_of : ℤ → Summands
constant_of n = put coefficients [] n []

-- the terms of both, with like terms added up
abbrev pub sum_of : Summands → Summands → Summands
sum_of p q = polynomial_of (p ++ q)

-- each coefficient with the other sign
abbrev pub negated : Summands → Summands
negated p = map (λ t. (t.0, neg_ℤ t.1)) p

-- the sum with the other, negated
abbrev pub difference_of : Summands → Summands → Summands
difference_of p q = sum_of p (negated q)

-- each term of q times the term t
abbrev pub multiples : Powers × ℤ → Summands → Summands
multiples t q = map (λ u. (product t.0 u.0, t.1 *ℤ u.1)) q

-- each term of p times each term of q
abbrev pub products : Summands → Summands → Summands
products [] q = []
products (t ∷ ts) q = multiples t q ++ products ts q

-- the products of the terms, with like terms added up
abbrev pub product_of : Summands → Summands → Summands
product_of p q = polynomial_of (products p q)

-- where a product may be made: the coefficients and the degrees stay within their bounds
pub record CanMultiply (p q : Summands) : Type 0 where
  pub left_in_order : IsCanonical term_cmp coefficients p
  pub left_monomials : AllKeys IsMonomial p
  pub right_in_order : IsCanonical term_cmp coefficients q
  pub right_monomials : AllKeys IsMonomial q
  pub norm_fits : norm_of p * norm_of q < 2 ^ 127
  pub degree_fits : total_degree p + total_degree q ≤ 65535
