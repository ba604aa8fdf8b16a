use Rattle.std.proofs.Common.{ℤ, subst}
use Rattle.geo_poly.specs.Monomials.{IsMonomial, Powers}
use Rattle.geo_poly.proofs.Naming.{IsMonomial-drop}
use Rattle.geo_sample.proofs.single_terms.SingleTerm.is_valid.Goals as goal

pub returns-clause-monomial : goal.returns-clause-monomial
returns-clause-monomial c =
    subst (λ (t : Powers × ℤ). IsMonomial t.0) c.self.view_is (IsMonomial-drop c.self.inside.gone c.self.inside.powers.items c.self.invariant.0)
