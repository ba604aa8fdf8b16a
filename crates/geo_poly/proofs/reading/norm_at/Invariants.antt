use Rattle.std.proofs.Common.{◌≡◌, take}
use Rattle.geo_poly.specs.Polynomials.{norm_of}
use Rattle.geo_poly.specs.Shared.{told}
use Rattle.geo_poly.proofs.reading.norm_at.Given as goal

abbrev pub invariant-loop-coefficient : goal.invariant-loop-coefficient
invariant-loop-coefficient l = l.norm ≡ norm_of (take l.coefficient-index (told l.p))
