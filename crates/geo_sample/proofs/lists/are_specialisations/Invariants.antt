use Rattle.std.proofs.Common.{All, take}
use Rattle.geo_poly.specs.Polynomials.{IsPolynomial}
use Rattle.geo_sample.proofs.lists.are_specialisations.Given as goal

abbrev pub invariant-loop-poly : goal.invariant-loop-poly
invariant-loop-poly l = All IsPolynomial (take l.poly-index l.polys)
