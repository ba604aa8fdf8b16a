use Rattle.std.proofs.Common.{◌≡◌, drop, take}
use Rattle.geo_poly.proofs.sharing.begin_with.Given as goal

abbrev pub invariant-loop-i : goal.invariant-loop-i
invariant-loop-i l = take l.i (drop l.depth l.factors) ≡ take l.i l.first
