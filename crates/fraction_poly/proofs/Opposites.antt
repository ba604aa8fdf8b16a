-- Zero less a polynomial is the polynomial with the other sign.
use Rattle.std.proofs.Common.{◌≡◌, []}
use Rattle.sparse_lists.proofs.Canonical.{canonical_self}
use Rattle.sparse_lists.specs.Coefficients.{coefficients}
use Rattle.geo_poly.specs.Polynomials.{Summands, IsPolynomial, term_cmp, difference_of, negated}
use Rattle.geo_poly.proofs.Negated.{IsCanonical-negated}
use Rattle.geo_poly.proofs.Orders.{term_order}
use Rattle.sparse_lists.proofs.Coefficients.{coefficients_add}

pub difference_of-zero : (p : Summands) → IsPolynomial p → difference_of [] p ≡ negated p
difference_of-zero p h = canonical_self term_cmp coefficients term_order coefficients_add (negated p) (IsCanonical-negated p h.in_order)
