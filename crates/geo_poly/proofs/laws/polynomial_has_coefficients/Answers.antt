use Rattle.std.proofs.Common.{sym, ◌∙◌}
use Rattle.sparse_lists.specs.Coefficients.{coefficients}
use Rattle.geo_poly.specs.Polynomials.{term_cmp, polynomial_of}
use Rattle.geo_poly.proofs.Orders.{term_order}
use Rattle.sparse_lists.proofs.Coefficients.{coefficients_add}
use Rattle.sparse_lists.proofs.Canonical.{IsCanonical-canonical, amount-canonical, same_list}
use Rattle.geo_poly.proofs.laws.polynomial_has_coefficients.Goals as goal

pub returns : goal.returns
returns c = λ p. (
  IsCanonical-canonical term_cmp coefficients term_order coefficients_add p,
  λ m. amount-canonical term_cmp coefficients term_order coefficients_add m p,
  λ q h same. same_list term_cmp coefficients term_order coefficients_add q (polynomial_of p) h (IsCanonical-canonical term_cmp coefficients term_order coefficients_add p)
      (λ m. same m ∙ sym (amount-canonical term_cmp coefficients term_order coefficients_add m p)),
)
