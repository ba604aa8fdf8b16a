use Rattle.std.proofs.Common.{◌≡◌, ◌+◌, drop, length}
use Rattle.geo_sample.specs.Inner.Changes.{waiting}
use Rattle.geo_sample.proofs.Puts.{put_before}
use Rattle.geo_sample.proofs.putting.put_changes.Given as goal

abbrev pub invariant-loop-place : goal.invariant-loop-place
invariant-loop-place g l = record {
  polys : l.polys.items ≡ put_before l.v l.number l.initial.changes.items l.initial.polys.items l.place;
  left : drop l.place l.changes.items ≡ drop l.place l.initial.changes.items;
  long : length l.changes.items ≡ length l.initial.polys.items;
  waits : l.ticks + waiting (drop l.place l.initial.changes.items) (drop l.place l.initial.polys.items)
      ≡ l.initial.ticks + waiting l.initial.changes.items l.initial.polys.items;
}
