use Rattle.std.proofs.Common.{◌≡◌, List, sym, subst, ◌∙◌}
use Rattle.std.proofs.lemmas.Result.{IfOk-weaker}
use Rattle.sparse_lists.specs.SparseLists.{AllKeys}
use Rattle.sparse_lists.proofs.Canonical.{canonical_comm}
use Rattle.geo_poly.specs.declared.variables.Var.{Var}
use Rattle.sparse_lists.specs.Coefficients.{coefficients}
use Rattle.geo_poly.specs.Polynomials.{IsPolynomial, sum_of, term_cmp}
use Rattle.geo_poly.specs.Shared.{IsIndex, terms_of, told}
use Rattle.geo_poly.proofs.Orders.{term_order}
use Rattle.sparse_lists.proofs.Coefficients.{coefficients_add}
use Rattle.geo_poly.proofs.PolynomialLaws.{IsPolynomial-sum_of}
use Rattle.geo_poly.proofs.Unions.{AllVariables-longer, parts_known}
use Rattle.geo_poly.proofs.sums.sum.Goals as goal

pub sum_over-requires-clause-known : goal.sum_over-requires-clause-known
sum_over-requires-clause-known c =
    AllVariables-longer c.args.q.now.vars.now c.args.p.now.vars.now (told c.args.q.now) (c.has_all.ensures c.if-has_all.true) (parts_known c.args.q.now c.requires.right)

pub sum_over-requires-then-has_all-2-clause-known : goal.sum_over-requires-then-has_all-2-clause-known
sum_over-requires-then-has_all-2-clause-known c =
    AllVariables-longer c.args.p.now.vars.now c.args.q.now.vars.now (told c.args.p.now) (c.has_all-2.ensures c.if-has_all-2.true) (parts_known c.args.p.now c.requires.left)

pub returns-then-has_all-2 : goal.returns-then-has_all-2
returns-then-has_all-2 c =
    IfOk-weaker c.sum_over-then-has_all-2.result _ _
    (λ s h. h ∙ canonical_comm term_cmp coefficients term_order coefficients_add (told c.args.q.now) (told c.args.p.now)) c.sum_over-then-has_all-2.ensures

pub sum_list-requires-clause-left_known : goal.sum_list-requires-clause-left_known
sum_list-requires-clause-left_known c =
    rw c.as_slice.ensures (AllVariables-longer c.args.p.now.vars.now c.in_ok-vars.vars (told c.args.p.now) c.in_ok-vars.ensures.left (parts_known c.args.p.now c.requires.left))

pub sum_list-requires-clause-right_known : goal.sum_list-requires-clause-right_known
sum_list-requires-clause-right_known c =
    rw c.as_slice.ensures (AllVariables-longer c.args.q.now.vars.now c.in_ok-vars.vars (told c.args.q.now) c.in_ok-vars.ensures.right (parts_known c.args.q.now c.requires.right))

pub compact-requires : goal.compact-requires
compact-requires c =
    let store = c.sum_list.new.store in
    let list = c.in_ok-list.list.items in
    let whole = subst (λ (vs : List Var). terms_of vs store list ≡ sum_of (told c.args.p.now) (told c.args.q.now)) c.as_slice.ensures c.in_ok-list.ensures.sum in
    record {
      rising = c.in_ok-vars.ensures.rising;
      indices = subst (λ (vs : List Var). AllKeys (IsIndex vs store) list) c.as_slice.ensures c.in_ok-list.ensures.indices;
      polynomial = subst IsPolynomial (sym whole) (IsPolynomial-sum_of (told c.args.p.now) (told c.args.q.now) c.requires.left.polynomial c.requires.right.polynomial c.requires.fits);
    }

pub returns : goal.returns
returns c =
    let whole = subst (λ (vs : List Var). terms_of vs c.sum_list.new.store c.in_ok-list.list.items ≡ sum_of (told c.args.p.now) (told c.args.q.now)) c.as_slice.ensures c.in_ok-list.ensures.sum in
    IfOk-weaker c.compact.result _ _ (λ s h. h ∙ whole) c.compact.ensures
