use Rattle.std.proofs.Common.{◌≡◌, ◌++◌, drop, sym, subst, ◌∙◌, FitsSigned, arith}
use Rattle.std.specs.Int.{w128}
use Rattle.sparse_lists.specs.SparseLists.{canonical}
use Rattle.sparse_lists.proofs.Merging.{take_rest, rest_left, rest_right}
use Rattle.sparse_lists.proofs.Sums.{AllKeys-append}
use Rattle.sparse_lists.specs.Coefficients.{coefficients}
use Rattle.geo_poly.specs.Polynomials.{term_cmp}
use Rattle.geo_poly.specs.Shared.{IsIndex, terms_of}
use Rattle.geo_poly.proofs.IndexSums.{AllKeys-drop, ends, fitting, goes_cancel, goes_equal, goes_greater, goes_less, list_index}
use Rattle.geo_poly.proofs.Orders.{term_order}
use Rattle.sparse_lists.proofs.Coefficients.{coefficients_add}
use Rattle.geo_poly.proofs.PolynomialLaws.{coded_sum_is, sum_is, sum_nonzero, sum_zero}
use Rattle.geo_poly.proofs.Told.{item, length-terms_of}
use Rattle.geo_poly.proofs.sums.merged_lists.Goals as goal
use Rattle.geo_poly.proofs.sums.merged_lists.Goals.{then-loop-i-test+else-j-right, else-loop-i-test, then-sum-ne0+in_ok-push-in-Equal, else-sum-ne0}

pub compare-requires-clause-left : goal.compare-requires-clause-left
compare-requires-clause-left c = (list_index c.args.vars.now c.args.store.now c.args.right.now c.loop-i.j c.if-j-right.true c.requires.right_indices).within

pub compare-requires-clause-right : goal.compare-requires-clause-right
compare-requires-clause-right c = (list_index c.args.vars.now c.args.store.now c.args.left.now c.loop-i.i c.loop-i-test.true c.requires.left_indices).within

pub loop-i-preserved-in-Less : goal.loop-i-preserved-in-Less
loop-i-preserved-in-Less c =
    let next =
    goes_less c.args.vars.now c.args.store.now c.args.left.now c.args.right.now c.loop-i.i c.loop-i.j c.loop-i-test.true c.if-j-right.true c.requires.left_indices c.requires.right_indices
    c.requires.rising c.requires.left c.requires.right c.loop-i.list.items c.loop-i.invariant.indices c.loop-i.invariant.kept (sym c.compare.ensures.order ∙ c.in-Less.is) in
    record {
      left_in = omega arith;
      right_in = omega arith;
      indices = rw c.in_ok-push-in-Less.ensures.items next.0;
      kept = rw c.in_ok-push-in-Less.ensures.items next.1;
    }

pub loop-i-preserved-in-Greater : goal.loop-i-preserved-in-Greater
loop-i-preserved-in-Greater c =
    let next =
    goes_greater c.args.vars.now c.args.store.now c.args.left.now c.args.right.now c.loop-i.i c.loop-i.j c.loop-i-test.true c.if-j-right.true c.requires.left_indices c.requires.right_indices
    c.requires.rising c.requires.left c.requires.right c.loop-i.list.items c.loop-i.invariant.indices c.loop-i.invariant.kept (sym c.compare.ensures.order ∙ c.in-Greater.is) in
    record {
      left_in = omega arith;
      right_in = omega arith;
      indices = rw c.in_ok-push-in-Greater.ensures.items next.0;
      kept = rw c.in_ok-push-in-Greater.ensures.items next.1;
    }

pub overflow_add-sum : goal.overflow_add-sum
overflow_add-sum c =
    let sums = fitting c.args.vars.now c.args.store.now c.args.left.now c.args.right.now c.loop-i.i c.loop-i.j c.loop-i-test.true
    c.if-j-right.true c.requires.left_indices c.requires.right_indices c.requires.fits in
    subst (FitsSigned w128) (sym (coded_sum_is (item c.args.left.now c.loop-i.i).1 (item c.args.right.now c.loop-i.j).1 sums)) sums.sum

pub loop-i-preserved : goal.loop-i-preserved
loop-i-preserved c =
    let a = (item c.args.left.now c.loop-i.i).1 in
    let b = (item c.args.right.now c.loop-i.j).1 in
    let sums = fitting c.args.vars.now c.args.store.now c.args.left.now c.args.right.now c.loop-i.i c.loop-i.j c.loop-i-test.true
    c.if-j-right.true c.requires.left_indices c.requires.right_indices c.requires.fits in
    elim c.if-sum-ne0.branch [
      | then-sum-ne0+in_ok-push-in-Equal w ↦
          let next =
          goes_equal c.args.vars.now c.args.store.now c.args.left.now c.args.right.now c.loop-i.i c.loop-i.j c.loop-i-test.true c.if-j-right.true c.requires.left_indices c.requires.right_indices
          c.requires.rising c.requires.left c.requires.right c.loop-i.list.items c.loop-i.invariant.indices c.loop-i.invariant.kept _ (sum_is a b sums) (sum_nonzero a b sums w.if-sum-ne0.true)
          (sym c.compare.ensures.order ∙ c.in-Equal.is) in
          record {
            left_in = omega arith;
            right_in = omega arith;
            indices = rw (w.list-is, w.in_ok-push-in-Equal.ensures.items) next.0;
            kept = rw (w.list-is, w.in_ok-push-in-Equal.ensures.items) next.1;
          }
      | else-sum-ne0 w ↦
          let next =
          goes_cancel c.args.vars.now c.args.store.now c.args.left.now c.args.right.now c.loop-i.i c.loop-i.j c.loop-i-test.true c.if-j-right.true c.requires.left_indices c.requires.right_indices
          c.requires.rising c.requires.left c.requires.right c.loop-i.list.items c.loop-i.invariant.indices c.loop-i.invariant.kept (sum_zero a b sums w.if-sum-ne0.false)
          (sym c.compare.ensures.order ∙ c.in-Equal.is) in
          record {
            left_in = omega arith;
            right_in = omega arith;
            indices = rw w.list-is next.0;
            kept = rw w.list-is next.1;
          }
    ]

pub returns-clause-indices : goal.returns-clause-indices
returns-clause-indices c =
    let P = IsIndex c.args.vars.now c.args.store.now in
    let left = c.args.left.now in
    let right = c.args.right.now in
    let list = c.loop-i.list.items in
    rw (c.in_ok-extend_from_slice-2.ensures.items, c.in_ok-extend_from_slice.ensures.items, take_rest left c.loop-i.i, take_rest right c.loop-i.j)
    (AllKeys-append P (list ++ drop c.loop-i.i left) (drop c.loop-i.j right)
    (AllKeys-append P list (drop c.loop-i.i left) c.loop-i.invariant.indices (AllKeys-drop P c.loop-i.i left c.requires.left_indices)) (AllKeys-drop P c.loop-i.j right c.requires.right_indices))

pub returns-clause-sum : goal.returns-clause-sum
returns-clause-sum c =
    let vars = c.args.vars.now in
    let store = c.args.store.now in
    let left = c.args.left.now in
    let right = c.args.right.now in
    let i = c.loop-i.i in
    let j = c.loop-i.j in
    let p = terms_of vars store left in
    let q = terms_of vars store right in
    let rest =
    elim c.loop-i-test.branch as (λ _. canonical term_cmp coefficients (drop i p ++ drop j q) ≡ drop i p ++ drop j q) [
      | then-loop-i-test+else-j-right w ↦ rest_left term_cmp coefficients term_order coefficients_add p q i j c.requires.left (omega (arith, w.if-j-right.false, length-terms_of vars store right))
      | else-loop-i-test w ↦ rest_right term_cmp coefficients term_order coefficients_add p q i j c.requires.right (omega (arith, w.loop-i-test.false, length-terms_of vars store left))
    ] in
    rw (c.in_ok-extend_from_slice-2.ensures.items, c.in_ok-extend_from_slice.ensures.items, take_rest left i, take_rest right j)
    (ends vars store left right c.loop-i.list.items i j rest c.loop-i.invariant.kept)
