use Rattle.std.proofs.Common.{◌≡◌, ◌+◌, ◌-◌, ◌≤◌, suc, sum_by}
use Rattle.geo_poly.specs.Specialise.{degree_in}
use Rattle.geo_sample.specs.Tries.{AreMade, tries_below}
use Rattle.geo_sample.proofs.LeastSamples.{AreLost}
use Rattle.geo_sample.proofs.sample.put_least_value.Given as goal

abbrev pub invariant-loop-keeps : goal.invariant-loop-keeps
invariant-loop-keeps g l = record {
  same : l.polys.items ≡ l.initial.polys.items;
  lost : AreLost l.v l.initial.polys.items l.k;
  made : AreMade l.initial.budget.left (tries_below l.k l.v l.initial.polys.items) l.budget.left;
  counted : l.ticks + l.budget.left ≤ l.initial.ticks + l.initial.budget.left;
}

abbrev pub decreases-loop-keeps : goal.decreases-loop-keeps
decreases-loop-keeps g l = suc (sum_by (degree_in l.v) l.initial.polys.items) - l.k
