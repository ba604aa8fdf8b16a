use Rattle.std.proofs.Common.{sym, subst, ◌∙◌}
use Rattle.std.specs.Prelude.{Contains}
use Rattle.geo_poly.specs.Inner.Keyed.{IsWithinLimits}
use Rattle.geo_poly.specs.PolynomialVariables.{AllVariables}
use Rattle.geo_poly.specs.Polynomials.{IsPolynomial, Summands}
use Rattle.geo_poly.proofs.ChainSwaps.{both_ok}
use Rattle.geo_poly.proofs.chained_replacement.stored_near.Goals as goal

pub keyed_near-requires-clause-known : goal.keyed_near-requires-clause-known
keyed_near-requires-clause-known g c = subst (λ (ts : Summands). AllVariables (Contains c.args.vars.now) ts) (sym c.shared.ensures.terms) c.requires.known

pub keyed_near-requires-clause-reach : goal.keyed_near-requires-clause-reach
keyed_near-requires-clause-reach g c =
    subst (λ (ts : Summands). IsWithinLimits c.args.vars.now (g.K.MonomialKeys.keys c.args.keys.now) ts) (sym c.shared.ensures.terms) c.requires.reach

pub returns-clause-stored : goal.returns-clause-stored
returns-clause-stored g c =
    both_ok c.keyed_near.result _ _ _
    (λ found h e. record { indices = h; terms = e ∙ c.shared.ensures.terms; polynomial = subst IsPolynomial c.shared.ensures.terms c.shared.ensures.valid.polynomial })
    c.keyed_near.ensures.indices c.keyed_near.ensures.terms
