use Rattle.std.proofs.Common.{subst}
use Rattle.geo_poly.specs.Polynomials.{IsPolynomial}
use Rattle.geo_poly.proofs.VariablesInOrder.{variables_exact, variables_in_order}
use Rattle.geo_poly.proofs.poly.Poly.variables.Goals as goal

pub returns-clause-in_order : goal.returns-clause-in_order
returns-clause-in_order c = variables_in_order c.args.self.now

pub returns-clause-exact : goal.returns-clause-exact
returns-clause-exact c = variables_exact c.args.self.now (subst IsPolynomial c.shared.ensures.terms c.shared.ensures.valid.polynomial)
