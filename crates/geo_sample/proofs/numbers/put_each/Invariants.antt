use Rattle.std.proofs.Common.{◌≡◌, ◌+◌, ◌++◌, length, sum_by, take, drop}
use Rattle.geo_sample.specs.Tries.{all_specialised}
use Rattle.geo_sample.proofs.numbers.put_each.Given as goal

abbrev pub invariant-loop-place : goal.invariant-loop-place
invariant-loop-place g l = record {
  put : l.polys.items ≡ all_specialised l.v l.number (take l.place l.initial.polys.items) ++ drop l.place l.initial.polys.items;
  ticks : l.ticks ≡ l.initial.ticks + sum_by length (take l.place l.initial.polys.items);
}
