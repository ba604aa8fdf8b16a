use Rattle.std.proofs.Common.{◌≡◌, ◌-◌, ◌≤◌, length, take}
use Rattle.geo_poly.proofs.sharing.common_factors.Given as goal

abbrev pub invariant-loop-i : goal.invariant-loop-i
invariant-loop-i l = record {
  most : l.i ≤ l.most;
  left : l.i ≤ length l.left;
  right : l.i ≤ length l.right;
  common : take l.i l.right ≡ take l.i l.left;
}

abbrev pub decreases-loop-i : goal.decreases-loop-i
decreases-loop-i l = l.most - l.i
