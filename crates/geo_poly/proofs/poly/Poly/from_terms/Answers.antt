use Rattle.std.proofs.Common.{◌≡◌, sym, subst, List}
use Rattle.std.specs.Prelude.{Contains}
use Rattle.sparse_lists.specs.SparseLists.{AllKeys}
use Rattle.geo_poly.specs.declared.variables.Var.{Var}
use Rattle.geo_poly.specs.Polynomials.{IsPolynomial}
use Rattle.geo_poly.specs.PolynomialVariables.{variables_of}
use Rattle.geo_poly.specs.Shared.{IsIndex, terms_of}
use Rattle.geo_poly.proofs.EachVariable.{all_variables}
use Rattle.geo_poly.proofs.VariablesInOrder.{variables_in_order}
use Rattle.geo_poly.proofs.poly.Poly.from_terms.Goals as goal

pub store_for_terms-requires : goal.store_for_terms-requires
store_for_terms-requires c = rw c.in_ok-vars.ensures (variables_in_order c.args.terms.now)

pub stored_terms-requires-clause-rising : goal.stored_terms-requires-clause-rising
stored_terms-requires-clause-rising c = rw (c.as_slice.ensures, c.in_ok-vars.ensures) (variables_in_order c.args.terms.now)

pub stored_terms-requires-clause-known : goal.stored_terms-requires-clause-known
stored_terms-requires-clause-known c =
    rw (c.as_slice.ensures, c.in_ok-vars.ensures) (all_variables (Contains (variables_of c.args.terms.now)) c.args.terms.now (λ w stands. stands))

pub invariant_of-result : goal.invariant_of-result
invariant_of-result c =
    let store = c.stored_terms.new.store in
    let list = c.in_ok-list.list.items in
    record {
      rising = rw c.in_ok-vars.ensures (variables_in_order c.args.terms.now);
      indices = subst (λ (vs : List Var). AllKeys (IsIndex vs store) list) c.as_slice.ensures c.in_ok-list.ensures.indices;
      polynomial = subst IsPolynomial (sym (subst (λ (vs : List Var). terms_of vs store list ≡ c.args.terms.now) c.as_slice.ensures c.in_ok-list.ensures.terms)) c.requires;
    }
