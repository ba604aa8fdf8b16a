use Rattle.std.proofs.Common.{◌+◌, ◌-◌, ◌≤◌, length}
use Rattle.geo_poly.proofs.MergedVariables.{Merging}
use Rattle.geo_poly.proofs.polynomial_variables.union.Given as goal

abbrev pub invariant-loop-i : goal.invariant-loop-i
invariant-loop-i l = record {
  left_in : l.i ≤ length l.left;
  right_in : l.j ≤ length l.right;
  merging : Merging l.left l.right l.items.items l.i l.j;
}

abbrev pub decreases-loop-i : goal.decreases-loop-i
decreases-loop-i l = (length l.left - l.i) + (length l.right - l.j)
