use Rattle.std.proofs.Common.{◌≡◌, ◌-◌, ◌^◌, length, min, sum_by, take}
use Rattle.geo_sample.proofs.charges.count_at_first.Given as goal

abbrev pub invariant-loop-poly : goal.invariant-loop-poly
invariant-loop-poly l = l.count ≡ min (sum_by length (take l.poly-index l.polys)) (2 ^ 128 - 1)
