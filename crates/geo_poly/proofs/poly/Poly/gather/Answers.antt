use Rattle.std.proofs.Common.{◌≡◌, ◌∙◌, sym, subst, ◌^◌, ◌<◌}
use Rattle.geo_poly.specs.Polynomials.{IsPolynomial, Summands, norm_of}
use Rattle.geo_poly.specs.Factors.{AreInOrder}
use Rattle.geo_poly.proofs.GatheredFactors.{IsPolynomial-gathered}
use Rattle.geo_poly.proofs.poly.Poly.gather.Goals as goal

pub from_terms-requires : goal.from_terms-requires
from_terms-requires c =
    let same : c.in_ok-terms.terms.items ≡ c.args.list.now = c.in_ok-terms.ensures.same ∙ c.deref.ensures.value ∙ c.list.view_is in
    subst IsPolynomial (sym c.deref-2.ensures.value)
    (IsPolynomial-gathered c.in_ok-terms.terms.items
    (subst AreInOrder (sym same) c.requires.in_order) c.in_ok-terms.ensures.valid
    (subst (λ (p : Summands). norm_of p < 2 ^ 127) (sym same) c.requires.fits))
