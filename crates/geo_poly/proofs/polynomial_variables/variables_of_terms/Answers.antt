use Rattle.std.proofs.Common.{List, take, sym, subst}
use Rattle.std.specs.List.Sorted.{IsStrictlySortedBy}
use Rattle.geo_poly.specs.declared.variables.Var.{Var}
use Rattle.geo_poly.specs.Variables.{var_cmp}
use Rattle.geo_poly.proofs.VariablesInOrder.{variables_in_order}
use Rattle.geo_poly.proofs.polynomial_variables.variables_of_terms.Goals as goal

pub insert_variables-requires-clause-rising : goal.insert_variables-requires-clause-rising
insert_variables-requires-clause-rising c =
    subst (λ (vs : List Var). IsStrictlySortedBy var_cmp vs) (sym c.loop-monomial.invariant.variables) (variables_in_order (take c.loop-monomial.monomial-index c.args.terms.now))
