use Rattle.std.proofs.Common.{◌++◌, ◌∙◌}
use Rattle.sparse_lists.specs.Coefficients.{coefficients}
use Rattle.geo_poly.specs.Polynomials.{term_cmp}
use Rattle.geo_poly.proofs.Orders.{term_order}
use Rattle.sparse_lists.proofs.Coefficients.{coefficients_add}
use Rattle.sparse_lists.proofs.Canonical.{amount-canonical, amount-append}
use Rattle.geo_poly.proofs.laws.sum_adds_coefficients.Goals as goal

pub returns : goal.returns
returns c = λ p q m.
    amount-canonical term_cmp coefficients term_order coefficients_add m (p ++ q) ∙ amount-append term_cmp coefficients term_order coefficients_add m p q
