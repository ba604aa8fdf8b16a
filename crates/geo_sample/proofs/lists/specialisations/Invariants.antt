use Rattle.std.proofs.Common.{◌≡◌, take}
use Rattle.geo_sample.proofs.lists.specialisations.Given as goal

abbrev pub invariant-loop-poly : goal.invariant-loop-poly
invariant-loop-poly l = l.made.items ≡ take l.poly-index l.polys
