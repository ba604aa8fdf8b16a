-- Cutting a factor out of a polynomial.
use Rattle.std.specs.Prelude.{◌≡◌, ℤ, List, [], ◌∷◌, Contains}
use Rattle.sparse_lists.specs.SparseLists.{AllKeys}
use Rattle.geo_poly.specs.declared.variables.Var.{Var}
use Rattle.geo_poly.specs.Factors.{IsFactor}
use Rattle.geo_poly.specs.Monomials.{Powers}
use Rattle.geo_poly.specs.Polynomials.{Summands, IsPolynomial, product_of}

-- q is f times r, and f has known variables alone
pub record IsCut (known : List Var) (f : Powers × ℤ) (q r : Summands) : Type 0 where
  pub factor : IsFactor f
  pub by_known : AllKeys (λ v. Contains known v) f.0
  pub polynomial : IsPolynomial r
  pub exact : product_of (f ∷ []) r ≡ q
