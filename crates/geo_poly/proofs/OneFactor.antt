-- A factor that is 1.
use Rattle.std.proofs.Common.{◌≡◌, ◌+◌, ◌*◌, ◌^◌, ◌<◌, ◌≤◌, pos, [], ◌∷◌, ap, ◌∙◌, arith}
use Rattle.geo_poly.specs.Polynomials.{IsPolynomial, Summands, norm_of, product_of, total_degree}
use Rattle.geo_poly.proofs.ChainPowers.{orders}
use Rattle.geo_poly.proofs.PolynomialRing.{product_of-one, product_of-one_comm}
use Rattle.geo_poly.proofs.ProductLaws.{total_degree-le}

module _ (p one : Summands) (h : IsPolynomial p) (e : one ≡ ([], pos 1) ∷ []) where
  pub one_right : product_of p one ≡ p
  one_right = ap (product_of p) e ∙ product_of-one p (record { in_order = h.in_order; monomials = orders p h.monomials })

  pub one_left : product_of one p ≡ p
  one_left = ap (λ (x : Summands). product_of x p) e ∙ product_of-one_comm p
      ∙ product_of-one p (record { in_order = h.in_order; monomials = orders p h.monomials })

  norm_of_one : norm_of one ≡ 1
  norm_of_one = ap norm_of e ∙ omega arith

  pub norm_fits : norm_of p * norm_of one < 2 ^ 127
  norm_fits = omega (arith, ap (λ n. norm_of p * n) norm_of_one, h.norm_fits)

  pub degree_fits : total_degree p + total_degree one ≤ 65535
  degree_fits = omega (arith, ap total_degree e, total_degree-le p h.monomials)
