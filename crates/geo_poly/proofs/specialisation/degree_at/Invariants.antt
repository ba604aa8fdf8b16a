use Rattle.std.proofs.Common.{◌≡◌, take}
use Rattle.geo_poly.specs.Shared.{told}
use Rattle.geo_poly.specs.Specialise.{degree_in}
use Rattle.geo_poly.proofs.specialisation.degree_at.Given as goal

abbrev pub invariant-loop-id : goal.invariant-loop-id
invariant-loop-id l = l.degree ≡ degree_in l.v (take l.id-index (told l.p))
