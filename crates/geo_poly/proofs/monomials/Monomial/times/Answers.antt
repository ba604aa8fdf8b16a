use Rattle.geo_poly.proofs.MonomialLaws.{IsMonomial-product}
use Rattle.geo_poly.proofs.monomials.Monomial.times.Goals as goal

pub invariant_of-result : goal.invariant_of-result
invariant_of-result c =
    rw (c.in_ok-powers.ensures, c.deref.ensures.value, c.deref-2.ensures.value)
    (IsMonomial-product c.self.inside.powers.items c.other.inside.powers.items (rw (c.self.view_is, c.other.view_is) c.requires))
