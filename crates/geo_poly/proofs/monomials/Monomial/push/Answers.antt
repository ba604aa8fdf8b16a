use Rattle.geo_poly.proofs.monomials.Monomial.push.Goals as goal

pub invariant_of-self-2 : goal.invariant_of-self-2
invariant_of-self-2 c = rw (c.in_ok-push.ensures.items, c.self.view_is) c.requires
