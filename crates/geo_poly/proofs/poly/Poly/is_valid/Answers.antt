use Rattle.std.proofs.Common.{subst}
use Rattle.geo_poly.specs.Polynomials.{IsPolynomial}
use Rattle.geo_poly.proofs.poly.Poly.is_valid.Goals as goal

pub returns-clause-valid : goal.returns-clause-valid
returns-clause-valid c = subst IsPolynomial c.shared-parts.ensures.terms c.shared-parts.ensures.valid.polynomial
