use Rattle.std.proofs.Common.{◌≡◌, ◌<◌, ◌≤◌, drop, length}
use Rattle.mono_store.specs.Stores.{IsStore, Keeps, count, monomial_of}
use Rattle.poly_tests.proofs.stores.stored.Given as goal

abbrev pub invariant-loop-i : goal.invariant-loop-i
invariant-loop-i l = record {
  valid : IsStore l.store;
  kept : Keeps l.fn.store l.store;
  within : l.id.0 < count l.store;
  left : l.i ≤ length l.powers;
  monomial : monomial_of l.store l.id ≡ drop l.i l.powers;
}

abbrev pub decreases-loop-i : goal.decreases-loop-i
decreases-loop-i l = l.i
