use Rattle.std.proofs.Common.{◌^◌, ◌<◌, All, take}
use Rattle.geo_poly.specs.Specialise.{specialised_weight}
use Rattle.geo_sample.proofs.numbers.test_weights.Given as goal

abbrev pub invariant-loop-poly : goal.invariant-loop-poly
invariant-loop-poly l = All (λ p. specialised_weight l.v l.number p < 2 ^ 127) (take l.poly-index l.polys)
