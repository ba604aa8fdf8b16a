use Rattle.std.proofs.Common.{◌≡◌, ◌-◌, ◌^◌, min, take}
use Rattle.geo_poly.specs.Shared.{told}
use Rattle.geo_poly.specs.Specialise.{specialised_weight}
use Rattle.geo_poly.proofs.specialisation.weight_at.Given as goal

abbrev pub invariant-loop-id : goal.invariant-loop-id
invariant-loop-id l = l.weight ≡ min (specialised_weight l.v l.value (take l.id-index (told l.p))) (2 ^ 128 - 1)
