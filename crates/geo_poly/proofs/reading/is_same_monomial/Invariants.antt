use Rattle.std.proofs.Common.{◌≡◌}
use Rattle.geo_poly.specs.Shared.{IsIndexOf, told_powers}
use Rattle.geo_poly.proofs.reading.is_same_monomial.Given as goal

abbrev pub invariant-loop-first : goal.invariant-loop-first
invariant-loop-first l = record {
  left_index : IsIndexOf l.p l.left;
  right_index : IsIndexOf l.q l.right;
  so_far : told_powers l.p l.left ≡ told_powers l.q l.right → told_powers l.p l.fn.id ≡ told_powers l.q l.fn.other;
  needed : told_powers l.p l.fn.id ≡ told_powers l.q l.fn.other → told_powers l.p l.left ≡ told_powers l.q l.right;
}

abbrev pub decreases-loop-first : goal.decreases-loop-first
decreases-loop-first l = l.left.0
