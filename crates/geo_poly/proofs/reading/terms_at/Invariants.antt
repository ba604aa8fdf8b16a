use Rattle.std.proofs.Common.{◌≡◌, take}
use Rattle.geo_poly.specs.Shared.{told}
use Rattle.geo_poly.proofs.reading.terms_at.Given as goal

abbrev pub invariant-loop-id : goal.invariant-loop-id
invariant-loop-id l = l.terms.items ≡ take l.id-index (told l.p)
