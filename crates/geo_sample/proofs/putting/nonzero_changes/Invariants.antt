use Rattle.std.proofs.Common.{◌≡◌, ◌+◌, length, sum_by, take}
use Rattle.geo_poly.specs.Specialise.{NoneZero}
use Rattle.geo_sample.specs.Inner.Changes.{changed_by, waiting}
use Rattle.geo_sample.specs.Tries.{all_specialised}
use Rattle.geo_sample.proofs.putting.nonzero_changes.Given as goal

abbrev pub invariant-loop-poly : goal.invariant-loop-poly
invariant-loop-poly g l = record {
  changed : changed_by l.v l.number l.changes.items l.polys ≡ all_specialised l.v l.number (take l.poly-index l.polys);
  long : length l.changes.items ≡ l.poly-index;
  nonzero : NoneZero (all_specialised l.v l.number (take l.poly-index l.polys));
  waits : l.ticks + waiting l.changes.items l.polys ≡ l.initial.ticks + sum_by length (take l.poly-index l.polys);
}
