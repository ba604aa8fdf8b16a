-- How many monomials sums, differences, products, constants and replacements have.
use Rattle.std.proofs.Common.{◌≡◌, ◌+◌, ◌*◌, ◌≤◌, max, ℤ, neg_ℤ, ◌*ℤ◌, [], ◌∷◌, ◌++◌, refl, unsigned_abs, length, sum_by, arith}
use Rattle.std.proofs.lemmas.Bool.Decides.{nat_tests}
use Rattle.std.proofs.lemmas.List.{length-append, length-map}
use Rattle.std.proofs.lemmas.List.Sums.{sum_by-cons}
use Rattle.sparse_lists.specs.SparseLists.{IsCanonical}
use Rattle.sparse_lists.proofs.Sums.{sum_by-canonical-le}
use Rattle.geo_poly.specs.Monomials.{Powers, product}
use Rattle.sparse_lists.specs.Coefficients.{coefficients}
use Rattle.geo_poly.specs.Polynomials.{Summands, IsPolynomial, multiples, negated, norm_of, polynomial_of, product_of, products, sum_of, term_cmp}
use Rattle.geo_poly.proofs.Orders.{term_order}
use Rattle.sparse_lists.proofs.Coefficients.{coefficients_add}

each_one : (p : Summands) → sum_by (λ t. 1) p ≡ length p
each_one [] = refl
each_one (t ∷ ts) = omega (arith, sum_by-cons (λ (t : Powers × ℤ). 1) t ts, each_one ts)

pub length-polynomial_of-le : (p : Summands) → length (polynomial_of p) ≤ length p
length-polynomial_of-le p =
    omega (arith, sum_by-canonical-le term_cmp coefficients term_order coefficients_add (λ t. 1) (λ k a b. omega arith) p, each_one p, each_one (polynomial_of p))

-- SUMS
pub length-sum_of-le : (p q : Summands) → length (sum_of p q) ≤ length p + length q
length-sum_of-le p q = omega (arith, length-polynomial_of-le (p ++ q), length-append p q)

pub length-negated : (p : Summands) → length (negated p) ≡ length p
length-negated p = length-map {B = Powers × ℤ} p (λ (t : Powers × ℤ). (t.0, neg_ℤ t.1))

-- PRODUCTS
pub length-multiples : (t : Powers × ℤ) (q : Summands) → length (multiples t q) ≡ length q
length-multiples t q = length-map {B = Powers × ℤ} q (λ (u : Powers × ℤ). (product t.0 u.0, t.1 *ℤ u.1))

pub length-products : (p q : Summands) → length (products p q) ≡ length p * length q
length-products [] q = omega arith
length-products (t ∷ ts) q = omega (arith, length-append (multiples t q) (products ts q), length-multiples t q, length-products ts q)

pub length-product_of-le : (p q : Summands) → length (product_of p q) ≤ length p * length q
length-product_of-le p q = omega (arith, length-polynomial_of-le (products p q), length-products p q)

-- CONSTANTS AND NORMS

-- each coefficient counts at least 1 in the norm
pub length-le-norm_of : (p : Summands) → IsCanonical term_cmp coefficients p → length p ≤ norm_of p
length-le-norm_of [] h = omega arith
length-le-norm_of (t ∷ ts) h =
    let some : 1 ≤ unsigned_abs t.1 = grind (arith, nat_tests) in
    omega (arith, some, sum_by-cons (λ (t : Powers × ℤ). unsigned_abs t.1) t ts, length-le-norm_of ts h.2)

-- so the number of monomials and the norm, each 1 where it is 0, are a count and a weight
pub own_count_is_light : (p : Summands) → IsPolynomial p → max (length p) 1 ≤ max (norm_of p) 1
own_count_is_light p h = omega (arith, length-le-norm_of p h.in_order)
