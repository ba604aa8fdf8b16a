use Rattle.std.proofs.Common.{◌≡◌, take}
use Rattle.geo_poly.specs.Specialise.{without}
use Rattle.geo_sample.proofs.single_terms.without.Given as goal

abbrev pub invariant-loop-w : goal.invariant-loop-w
invariant-loop-w l = l.others.items ≡ without l.v (take l.w-index l.powers)
