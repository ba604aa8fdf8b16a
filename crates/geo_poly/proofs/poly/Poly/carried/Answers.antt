use Rattle.std.proofs.Common.{◌≡◌, sym, subst, List}
use Rattle.std.specs.Prelude.{Contains}
use Rattle.sparse_lists.specs.SparseLists.{AllKeys}
use Rattle.geo_poly.specs.declared.variables.Var.{Var}
use Rattle.geo_poly.specs.Polynomials.{IsPolynomial}
use Rattle.geo_poly.specs.PolynomialVariables.{variables_of}
use Rattle.geo_poly.specs.Shared.{IsIndex, terms_of, told}
use Rattle.geo_poly.proofs.EachVariable.{all_variables}
use Rattle.geo_poly.proofs.VariablesInOrder.{variables_in_order}
use Rattle.geo_poly.proofs.poly.Poly.carried.Goals as goal

pub store_for-requires-clause-rising : goal.store_for-requires-clause-rising
store_for-requires-clause-rising c = rw c.in_ok-vars.ensures (variables_in_order (told c.args.p.now))

pub moved-requires-clause-rising : goal.moved-requires-clause-rising
moved-requires-clause-rising c = rw (c.as_slice.ensures, c.in_ok-vars.ensures) (variables_in_order (told c.args.p.now))

pub moved-requires-clause-known : goal.moved-requires-clause-known
moved-requires-clause-known c =
    let q = told c.args.p.now in
    rw (c.as_slice.ensures, c.in_ok-vars.ensures) (all_variables (Contains (variables_of q)) q (λ w stands. stands))

pub invariant_of-result : goal.invariant_of-result
invariant_of-result c =
    let q = told c.args.p.now in
    let store = c.moved.new.store in
    let list = c.in_ok-list.list.items in
    record {
      rising = rw c.in_ok-vars.ensures (variables_in_order q);
      indices = subst (λ (vs : List Var). AllKeys (IsIndex vs store) list) c.as_slice.ensures c.in_ok-list.ensures.indices;
      polynomial = subst IsPolynomial (sym (subst (λ (vs : List Var). terms_of vs store list ≡ q) c.as_slice.ensures c.in_ok-list.ensures.terms)) c.requires.polynomial;
    }
