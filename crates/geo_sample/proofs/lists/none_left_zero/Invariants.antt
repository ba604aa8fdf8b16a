use Rattle.std.proofs.Common.{take}
use Rattle.geo_poly.specs.Specialise.{NoneZero}
use Rattle.geo_sample.proofs.lists.none_left_zero.Given as goal

abbrev pub invariant-loop-poly : goal.invariant-loop-poly
invariant-loop-poly l = NoneZero (take l.poly-index l.polys)
