use Rattle.std.proofs.Common.{subst}
use Rattle.std.specs.Prelude.{Contains}
use Rattle.geo_poly.specs.PolynomialVariables.{AllVariables}
use Rattle.geo_poly.specs.Polynomials.{Summands}
use Rattle.geo_poly.proofs.Unions.{known_variables}
use Rattle.geo_poly.proofs.stored.Stored.vars.Goals as goal

pub returns-clause-rising : goal.returns-clause-rising
returns-clause-rising c = λ p h. h.valid.rising

pub returns-clause-known : goal.returns-clause-known
returns-clause-known c = λ p h.
    let s = c.args.self.now in
    subst (λ (q : Summands). AllVariables (Contains s.vars) q) h.terms (known_variables s.vars s.monos s.list.items h.valid.indices)
