use Rattle.std.proofs.Common.{◌≡◌, ◌∙◌, ◌≤◌, ◌++◌, List, [], drop, inl, inr, length, sym, subst, arith, rules}
use Rattle.std.specs.Prelude.{◌⊎◌}
use Rattle.std.proofs.lemmas.List.Elements.{Contains-append_left}
use Rattle.sparse_lists.proofs.Merging.{take_rest}
use Rattle.geo_poly.specs.declared.variables.Var.{Var}
use Rattle.geo_poly.proofs.MergedVariables.{Merging, Merging-equal, Merging-greater, Merging-less, Merging-start, has_more, merged_rises}
use Rattle.geo_poly.proofs.polynomial_variables.union.Goals as goal
use Rattle.geo_poly.proofs.polynomial_variables.union.Goals.{then-loop-i-test+else-j-right, else-loop-i-test}

pub loop-i-init : goal.loop-i-init
loop-i-init c =
    let none : c.in_ok-items.items.items ≡ [] = search rules in
    record {
      left_in = omega arith;
      right_in = omega arith;
      merging = subst (λ (out : List Var). Merging c.args.left.now c.args.right.now out 0 0) (sym none) (Merging-start c.args.left.now c.args.right.now c.requires.left c.requires.right);
    }

pub loop-i-preserved-in-Less : goal.loop-i-preserved-in-Less
loop-i-preserved-in-Less c =
    let next =
    Merging-less c.args.left.now c.args.right.now c.loop-i.items.items c.loop-i.i c.loop-i.j c.loop-i-test.true c.if-j-right.true (sym c.cmp.ensures ∙ c.in-Less.is) c.loop-i.invariant.merging in
    record {
      left_in = omega arith;
      right_in = omega arith;
      merging = rw c.in_ok-push-in-Less.ensures.items next;
    }

pub loop-i-preserved-in-Greater : goal.loop-i-preserved-in-Greater
loop-i-preserved-in-Greater c =
    let next =
    Merging-greater c.args.left.now c.args.right.now c.loop-i.items.items c.loop-i.i c.loop-i.j c.loop-i-test.true c.if-j-right.true (sym c.cmp.ensures ∙ c.in-Greater.is) c.loop-i.invariant.merging in
    record {
      left_in = omega arith;
      right_in = omega arith;
      merging = rw c.in_ok-push-in-Greater.ensures.items next;
    }

pub loop-i-preserved : goal.loop-i-preserved
loop-i-preserved c =
    let next =
    Merging-equal c.args.left.now c.args.right.now c.loop-i.items.items c.loop-i.i c.loop-i.j c.loop-i-test.true c.if-j-right.true (sym c.cmp.ensures ∙ c.in-Equal.is) c.loop-i.invariant.merging in
    record {
      left_in = omega arith;
      right_in = omega arith;
      merging = rw c.in_ok-push-in-Equal.ensures.items next;
    }

pub returns-clause-rising : goal.returns-clause-rising
returns-clause-rising c =
    let left = c.args.left.now in
    let right = c.args.right.now in
    let past =
    elim c.loop-i-test.branch as (λ _. (length left ≤ c.loop-i.i) ⊎ (length right ≤ c.loop-i.j)) [
      | then-loop-i-test+else-j-right w ↦ inr (omega (arith, w.if-j-right.false))
      | else-loop-i-test w ↦ inl (omega (arith, w.loop-i-test.false))
    ] in
    rw (c.in_ok-extend_from_slice-2.ensures.items, c.in_ok-extend_from_slice.ensures.items, take_rest left c.loop-i.i, take_rest right c.loop-i.j)
    (merged_rises left right c.loop-i.items.items c.loop-i.i c.loop-i.j past c.loop-i.invariant.merging)

pub returns-clause-left : goal.returns-clause-left
returns-clause-left c = λ v stands.
    let left = c.args.left.now in
    let right = c.args.right.now in
    rw (c.in_ok-extend_from_slice-2.ensures.items, c.in_ok-extend_from_slice.ensures.items, take_rest left c.loop-i.i, take_rest right c.loop-i.j)
    (Contains-append_left (c.loop-i.items.items ++ drop c.loop-i.i left) (drop c.loop-i.j right) v (c.loop-i.invariant.merging.has_left v stands))

pub returns-clause-right : goal.returns-clause-right
returns-clause-right c = λ v stands.
    let left = c.args.left.now in
    let right = c.args.right.now in
    rw (c.in_ok-extend_from_slice-2.ensures.items, c.in_ok-extend_from_slice.ensures.items, take_rest left c.loop-i.i, take_rest right c.loop-i.j)
    (has_more c.loop-i.items.items (drop c.loop-i.i left) (drop c.loop-i.j right) v (c.loop-i.invariant.merging.has_right v stands))
