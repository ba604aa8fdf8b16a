use Rattle.std.proofs.Common.{◌≡◌, take}
use Rattle.geo_poly.specs.Polynomials.{total_degree}
use Rattle.geo_poly.specs.Shared.{told}
use Rattle.geo_poly.proofs.reading.total_degree_at.Given as goal

abbrev pub invariant-loop-id : goal.invariant-loop-id
invariant-loop-id l = l.degree ≡ total_degree (take l.id-index (told l.p))
