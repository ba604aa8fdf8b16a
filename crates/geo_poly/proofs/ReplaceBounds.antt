-- The norm, the degree and the order of what a replacement makes.
use Rattle.std.proofs.Common.{ℕ, zero, suc, ◌+◌, ◌*◌, ◌^◌, ◌≤◌, [], ◌∷◌, arith}
use Rattle.std.proofs.Math.Nat.{pow-suc, pow-zero, mul-le-mul}
use Rattle.sparse_lists.specs.SparseLists.{AllKeys}
use Rattle.geo_poly.specs.Monomials.{Powers, degree_of}
use Rattle.sparse_lists.specs.Coefficients.{coefficients}
use Rattle.geo_poly.specs.Polynomials.{Summands, term_cmp, norm_of, total_degree, multiples, products, product_of}
use Rattle.geo_poly.specs.Replace.{power_of}
use Rattle.sparse_lists.proofs.Sums.{AllKeys-canonical, AllKeys-append}
use Rattle.geo_poly.proofs.MonomialLaws.{degree_of-product}
use Rattle.geo_poly.proofs.ProductLaws.{norm_of-product_of-le}

-- the degree is at most d where that of each monomial is
pub UpTo : ℕ → Powers → Type 0
UpTo d m = degree_of m ≤ d

pub up_to : (p : Summands) (d : ℕ) → total_degree p ≤ d → AllKeys (UpTo d) p
unfolding UpTo
up_to [] d h = tt
up_to (t ∷ ts) d h = (omega arith, up_to ts d (omega arith))

pub from_up_to : (p : Summands) (d : ℕ) → AllKeys (UpTo d) p → total_degree p ≤ d
unfolding UpTo
from_up_to [] d h = omega arith
from_up_to (t ∷ ts) d h = omega (arith, h.0, from_up_to ts d h.1)

up_to_multiples : (t : Powers × _) (q : Summands) (d : ℕ) → degree_of t.0 + total_degree q ≤ d → AllKeys (UpTo d) (multiples t q)
unfolding UpTo
up_to_multiples t [] d h = tt
up_to_multiples t (u ∷ us) d h = (omega (arith, degree_of-product t.0 u.0), up_to_multiples t us d (omega arith))

up_to_products : (p q : Summands) (d : ℕ) → total_degree p + total_degree q ≤ d → AllKeys (UpTo d) (products p q)
up_to_products [] q d h = tt
up_to_products (t ∷ ts) q d h = AllKeys-append (UpTo d) (multiples t q) (products ts q) (up_to_multiples t q d (omega arith)) (up_to_products ts q d (omega arith))

pub total_degree-product_of-le : (p q : Summands) → total_degree (product_of p q) ≤ total_degree p + total_degree q
total_degree-product_of-le p q =
    let d = total_degree p + total_degree q in
    from_up_to (product_of p q) d (AllKeys-canonical term_cmp coefficients (UpTo d) (products p q) (up_to_products p q d (omega arith)))

pub norm_of-power_of-le : (q : Summands) (w n : ℕ) → norm_of q ≤ w → norm_of (power_of q n) ≤ w ^ n
norm_of-power_of-le q w zero h = rw (pow-zero w) (omega arith)
norm_of-power_of-le q w (suc n) h =
    let both : norm_of q * norm_of (power_of q n) ≤ w * w ^ n = mul-le-mul h (norm_of-power_of-le q w n h) in
    omega (arith, norm_of-product_of-le q (power_of q n), both, pow-suc w n)

pub total_degree-power_of-le : (q : Summands) (g n : ℕ) → total_degree q ≤ g → total_degree (power_of q n) ≤ g * n
total_degree-power_of-le q g zero h = omega arith
total_degree-power_of-le q g (suc n) h = omega (arith, total_degree-product_of-le q (power_of q n), h, total_degree-power_of-le q g n h)
