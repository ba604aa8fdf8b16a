use Rattle.std.proofs.Common.{◌≡◌, ℕ, ◌+◌, ◌<◌, ◌++◌, false, drop, length, get_or, eqb, sym, ◌∙◌, append_assoc, arith}
use Rattle.std.proofs.lemmas.Bool.Decides.{nat_tests}
use Rattle.geo_poly.specs.declared.variables.Var.{Var}
use Rattle.geo_poly.specs.declared.variables.Var.TheVariants.{R}
use Rattle.geo_poly.specs.Variables.{var_cmp}
use Rattle.sparse_lists.specs.SparseLists.{IsCanonical, canonical}
use Rattle.geo_poly.specs.Monomials.{Powers, exponents, product}
use Rattle.geo_poly.proofs.Orders.{var_order, exponents_add}
use Rattle.sparse_lists.proofs.Merging.{IsCanonical-at, get_or_any, take_rest, kept_less, kept_greater, kept_equal, rest_left, rest_right}
use Rattle.geo_poly.proofs.monomials.merged.Goals as goal
use Rattle.geo_poly.proofs.monomials.merged.Goals.{then-loop-i-test+else-j-right, else-loop-i-test}

abbrev none : Var × ℕ
none = (R (record { 0 = 0 }) (record { 0 = 0 }) (record { 0 = 0 }) (record { 0 = 0 }), 0)

abbrev at : Powers → ℕ → Var × ℕ
at m i = get_or m i none

at-is : (m : Powers) (i : ℕ) → i < length m → at m i ≡ get_or m i (at m i)
at-is m i h = get_or_any m i none (at m i) h

sum_nonzero : (m n : Powers) (i j : ℕ) → i < length m → IsCanonical var_cmp exponents m → eqb ((at m i).1 + (at n j).1) 0 ≡ false
sum_nonzero m n i j h canonical =
    let nonzero : eqb (at m i).1 0 ≡ false = (IsCanonical-at var_cmp exponents var_order exponents_add m i (at m i) h (at-is m i h) canonical).0 in
    grind (arith, nat_tests)

pub loop-i-preserved-in-Less : goal.loop-i-preserved-in-Less
loop-i-preserved-in-Less c =
    let m = c.args.left.now in
    let n = c.args.right.now in
    record {
      left_in = omega arith;
      right_in = omega arith;
      kept = rw c.in_ok-push-in-Less.ensures.items
          (kept_less var_cmp exponents var_order exponents_add m n c.loop-i.i c.loop-i.j (at m c.loop-i.i) (at n c.loop-i.j) c.loop-i-test.true c.if-j-right.true
          (at-is m c.loop-i.i c.loop-i-test.true) (at-is n c.loop-i.j c.if-j-right.true) c.requires.left c.requires.right
          c.loop-i.powers.items (product m n) (sym c.cmp.ensures ∙ c.in-Less.is) c.loop-i.invariant.kept);
    }

pub loop-i-preserved-in-Greater : goal.loop-i-preserved-in-Greater
loop-i-preserved-in-Greater c =
    let m = c.args.left.now in
    let n = c.args.right.now in
    record {
      left_in = omega arith;
      right_in = omega arith;
      kept = rw c.in_ok-push-in-Greater.ensures.items
          (kept_greater var_cmp exponents var_order exponents_add m n c.loop-i.i c.loop-i.j (at m c.loop-i.i) (at n c.loop-i.j) c.loop-i-test.true c.if-j-right.true
          (at-is m c.loop-i.i c.loop-i-test.true) (at-is n c.loop-i.j c.if-j-right.true) c.requires.left c.requires.right
          c.loop-i.powers.items (product m n) (sym c.cmp.ensures ∙ c.in-Greater.is) c.loop-i.invariant.kept);
    }

pub loop-i-preserved : goal.loop-i-preserved
loop-i-preserved c =
    let m = c.args.left.now in
    let n = c.args.right.now in
    record {
      left_in = omega arith;
      right_in = omega arith;
      kept = rw c.in_ok-push-in-Equal.ensures.items
          (kept_equal var_cmp exponents var_order exponents_add m n c.loop-i.i c.loop-i.j (at m c.loop-i.i) (at n c.loop-i.j) c.loop-i-test.true c.if-j-right.true
          (at-is m c.loop-i.i c.loop-i-test.true) (at-is n c.loop-i.j c.if-j-right.true) c.requires.left c.requires.right
          c.loop-i.powers.items (product m n) (sym c.cmp.ensures ∙ c.in-Equal.is) (sum_nonzero m n c.loop-i.i c.loop-i.j c.loop-i-test.true c.requires.left) c.loop-i.invariant.kept);
    }

pub returns : goal.returns
returns c =
    let m = c.args.left.now in
    let n = c.args.right.now in
    let i = c.loop-i.i in
    let j = c.loop-i.j in
    let rest : canonical var_cmp exponents (drop i m ++ drop j n) ≡ drop i m ++ drop j n =
    elim c.loop-i-test.branch [
      | then-loop-i-test+else-j-right w ↦ rest_left var_cmp exponents var_order exponents_add m n i j c.requires.left w.if-j-right.false
      | else-loop-i-test w ↦ rest_right var_cmp exponents var_order exponents_add m n i j c.requires.right w.loop-i-test.false
    ] in
    rw (c.in_ok-extend_from_slice-2.ensures.items, c.in_ok-extend_from_slice.ensures.items, take_rest m i, take_rest n j, append_assoc, ← rest) c.loop-i.invariant.kept
