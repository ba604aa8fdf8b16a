use Rattle.std.proofs.Common.{◌≡◌, ◌≤◌, drop, length}
use Rattle.mono_store.specs.Stores.{Keeps}
use Rattle.geo_poly.specs.Shared.{IsIndex, powers_at}
use Rattle.geo_poly.proofs.interning.stored.Given as goal

abbrev pub invariant-loop-i : goal.invariant-loop-i
invariant-loop-i l = record {
  kept : Keeps l.fn.store l.store;
  index : IsIndex l.vars l.store l.id;
  left : l.i ≤ length l.powers;
  powers : powers_at l.vars l.store l.id ≡ drop l.i l.powers;
}

abbrev pub decreases-loop-i : goal.decreases-loop-i
decreases-loop-i l = l.i
