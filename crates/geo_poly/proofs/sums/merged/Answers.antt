use Rattle.std.proofs.Common.{◌≡◌, ◌++◌, drop, sym, ◌∙◌, append_assoc, arith}
use Rattle.sparse_lists.specs.SparseLists.{canonical}
use Rattle.sparse_lists.specs.Coefficients.{coefficients}
use Rattle.geo_poly.specs.Polynomials.{term_cmp, sum_of}
use Rattle.geo_poly.proofs.Orders.{term_order}
use Rattle.sparse_lists.proofs.Coefficients.{coefficients_add}
use Rattle.geo_poly.proofs.PolynomialLaws.{FitsSum, fits_at, sum_is, sum_nonzero, sum_zero}
use Rattle.sparse_lists.proofs.Merging.{take_rest, kept_less, kept_greater, kept_equal, kept_cancel, rest_left, rest_right}
use Rattle.geo_poly.proofs.sums.merged.Goals as goal
use Rattle.geo_poly.proofs.sums.merged.Goals.{then-loop-i-test+else-j-right, else-loop-i-test, then-sum-ne0+in_ok-copy-in-Equal+in_ok-push-in-Equal, else-sum-ne0}

pub loop-i-preserved-in-Less : goal.loop-i-preserved-in-Less
loop-i-preserved-in-Less c =
    let p = c.args.left.now in
    let q = c.args.right.now in
    record {
      left_in = omega arith;
      right_in = omega arith;
      kept = rw (c.in_ok-push-in-Less.ensures.items, c.in_ok-copy_term-in-Less.ensures)
          (kept_less term_cmp coefficients term_order coefficients_add p q c.loop-i.i c.loop-i.j c.index-left-i.result c.index-right-j.result c.loop-i-test.true c.if-j-right.true
          c.index-left-i.is c.index-right-j.is c.requires.left c.requires.right
          c.loop-i.terms.items (sum_of p q) (sym c.compare.ensures ∙ c.in-Less.is) c.loop-i.invariant.kept);
    }

pub loop-i-preserved-in-Greater : goal.loop-i-preserved-in-Greater
loop-i-preserved-in-Greater c =
    let p = c.args.left.now in
    let q = c.args.right.now in
    record {
      left_in = omega arith;
      right_in = omega arith;
      kept = rw (c.in_ok-push-in-Greater.ensures.items, c.in_ok-copy_term-in-Greater.ensures)
          (kept_greater term_cmp coefficients term_order coefficients_add p q c.loop-i.i c.loop-i.j c.index-left-i.result c.index-right-j.result c.loop-i-test.true c.if-j-right.true
          c.index-left-i.is c.index-right-j.is c.requires.left c.requires.right
          c.loop-i.terms.items (sum_of p q) (sym c.compare.ensures ∙ c.in-Greater.is) c.loop-i.invariant.kept);
    }

pub loop-i-preserved : goal.loop-i-preserved
loop-i-preserved c =
    let p = c.args.left.now in
    let q = c.args.right.now in
    let t = c.index-left-i.result in
    let u = c.index-right-j.result in
    let sums : FitsSum t.1 u.1 = fits_at p q c.loop-i.i c.loop-i.j t u c.loop-i-test.true c.if-j-right.true c.index-left-i.is c.index-right-j.is c.requires.fits in
    record {
      left_in = omega arith;
      right_in = omega arith;
      kept = elim c.if-sum-ne0.branch [
        | then-sum-ne0+in_ok-copy-in-Equal+in_ok-push-in-Equal w ↦
            rw (w.terms-is, w.in_ok-push-in-Equal.ensures.items, w.in_ok-copy-in-Equal.ensures, sum_is t.1 u.1 sums)
            (kept_equal term_cmp coefficients term_order coefficients_add p q c.loop-i.i c.loop-i.j t u c.loop-i-test.true c.if-j-right.true
            c.index-left-i.is c.index-right-j.is c.requires.left c.requires.right
            c.loop-i.terms.items (sum_of p q) (sym c.compare.ensures ∙ c.in-Equal.is) (sum_nonzero t.1 u.1 sums w.if-sum-ne0.true) c.loop-i.invariant.kept)
        | else-sum-ne0 w ↦
            rw w.terms-is
            (kept_cancel term_cmp coefficients term_order coefficients_add p q c.loop-i.i c.loop-i.j t u c.loop-i-test.true c.if-j-right.true
            c.index-left-i.is c.index-right-j.is c.requires.left c.requires.right
            c.loop-i.terms.items (sum_of p q) (sym c.compare.ensures ∙ c.in-Equal.is) (sum_zero t.1 u.1 sums w.if-sum-ne0.false) c.loop-i.invariant.kept)
      ];
    }

pub returns : goal.returns
returns c =
    let p = c.args.left.now in
    let q = c.args.right.now in
    let i = c.loop-i.i in
    let j = c.loop-i.j in
    let rest : canonical term_cmp coefficients (drop i p ++ drop j q) ≡ drop i p ++ drop j q =
    elim c.loop-i-test.branch [
      | then-loop-i-test+else-j-right w ↦ rest_left term_cmp coefficients term_order coefficients_add p q i j c.requires.left w.if-j-right.false
      | else-loop-i-test w ↦ rest_right term_cmp coefficients term_order coefficients_add p q i j c.requires.right w.loop-i-test.false
    ] in
    rw (c.in_ok-append_copies-2.ensures, c.in_ok-append_copies.ensures, take_rest p i, take_rest q j, append_assoc, ← rest) c.loop-i.invariant.kept
