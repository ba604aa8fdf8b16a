use Rattle.std.proofs.Common.{◌≡◌, ◌+◌, ◌-◌, ◌≤◌, ◌++◌, drop, length}
use Rattle.sparse_lists.specs.SparseLists.{AllKeys, canonical}
use Rattle.sparse_lists.specs.Coefficients.{coefficients}
use Rattle.geo_poly.specs.Polynomials.{term_cmp, sum_of}
use Rattle.geo_poly.specs.Shared.{IsIndex, terms_of}
use Rattle.geo_poly.proofs.sums.merged_lists.Given as goal

abbrev pub invariant-loop-i : goal.invariant-loop-i
invariant-loop-i l = record {
  left_in : l.i ≤ length l.left;
  right_in : l.j ≤ length l.right;
  indices : AllKeys (IsIndex l.vars l.store) l.list.items;
  kept : terms_of l.vars l.store l.list.items ++ canonical term_cmp coefficients (drop l.i (terms_of l.vars l.store l.left) ++ drop l.j (terms_of l.vars l.store l.right))
      ≡ sum_of (terms_of l.vars l.store l.left) (terms_of l.vars l.store l.right);
}

abbrev pub decreases-loop-i : goal.decreases-loop-i
decreases-loop-i l = (length l.left - l.i) + (length l.right - l.j)
