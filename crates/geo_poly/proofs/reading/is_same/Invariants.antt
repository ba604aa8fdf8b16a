use Rattle.std.proofs.Common.{◌≡◌, take}
use Rattle.geo_poly.specs.Shared.{told}
use Rattle.geo_poly.proofs.reading.is_same.Given as goal

abbrev pub invariant-loop-i : goal.invariant-loop-i
invariant-loop-i l = take l.i (told l.p) ≡ take l.i (told l.q)
