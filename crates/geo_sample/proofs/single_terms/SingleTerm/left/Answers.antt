use Rattle.std.proofs.Common.{drop, sym, ap, subst, ◌∙◌}
use Rattle.geo_poly.specs.Monomials.{IsMonomial, Powers}
use Rattle.geo_poly.proofs.Naming.{IsMonomial-drop}
use Rattle.geo_sample.proofs.single_terms.SingleTerm.left.Goals as goal

pub returns-clause-monomial : goal.returns-clause-monomial
returns-clause-monomial c =
    let g = c.self.inside.gone in
    subst IsMonomial (sym (c.split_at.ensures.back ∙ ap (λ (m : Powers). drop g m) c.deref.ensures.value)) (IsMonomial-drop g c.self.inside.powers.items c.self.invariant.0)
