use Rattle.std.proofs.Common.{sym, subst, ◌∙◌}
use Rattle.std.specs.Prelude.{Contains}
use Rattle.geo_poly.specs.Inner.Keyed.{IsWithinLimits}
use Rattle.geo_poly.specs.PolynomialVariables.{AllVariables}
use Rattle.geo_poly.specs.Polynomials.{IsPolynomial, Summands}
use Rattle.geo_poly.proofs.ChainSwaps.{both_ok}
use Rattle.geo_poly.proofs.chained_replacement.stored_poly.Goals as goal

pub keyed-requires-clause-known : goal.keyed-requires-clause-known
keyed-requires-clause-known g c = subst (λ (ts : Summands). AllVariables (Contains c.args.vars.now) ts) (sym c.shared.ensures.terms) c.requires.known

pub keyed-requires-clause-reach : goal.keyed-requires-clause-reach
keyed-requires-clause-reach g c =
    subst (λ (ts : Summands). IsWithinLimits c.args.vars.now (g.K.MonomialKeys.keys c.args.keys.now) ts) (sym c.shared.ensures.terms) c.requires.reach

pub returns-clause-stored : goal.returns-clause-stored
returns-clause-stored g c =
    both_ok c.keyed.result _ _ _
    (λ list h e. record { indices = h; terms = e ∙ c.shared.ensures.terms; polynomial = subst IsPolynomial c.shared.ensures.terms c.shared.ensures.valid.polynomial })
    c.keyed.ensures.indices c.keyed.ensures.terms
