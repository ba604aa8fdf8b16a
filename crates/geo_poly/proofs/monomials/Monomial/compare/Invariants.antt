use Rattle.std.proofs.Common.{◌≡◌, ◌-◌, ◌≤◌, drop, length}
use Rattle.geo_poly.specs.Monomials.{monomial_cmp}
use Rattle.geo_poly.proofs.monomials.Monomial.compare.Given as goal

abbrev pub invariant-loop-i : goal.invariant-loop-i
invariant-loop-i l = record {
  left_in : l.i ≤ length l.left.items;
  right_in : l.i ≤ length l.right.items;
  same_so_far : monomial_cmp (drop l.i l.left.items) (drop l.i l.right.items) ≡ monomial_cmp l.left.items l.right.items;
}

abbrev pub decreases-loop-i : goal.decreases-loop-i
decreases-loop-i l = length l.left.items - l.i
