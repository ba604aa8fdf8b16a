use Rattle.std.proofs.Common.{ℤ, drop, ap, ◌∙◌}
use Rattle.geo_poly.specs.Monomials.{Powers}
use Rattle.geo_sample.proofs.OneTerm.{drop_next}
use Rattle.geo_sample.proofs.single_terms.SingleTerm.drop_first.Goals as goal

pub returns : goal.returns
returns c =
    ap (λ (m : Powers). (m, c.self.inside.coefficient)) (drop_next c.self.inside.gone c.self.inside.powers.items)
    ∙ ap (λ (t : Powers × ℤ). (drop 1 t.0, t.1)) c.self.view_is
