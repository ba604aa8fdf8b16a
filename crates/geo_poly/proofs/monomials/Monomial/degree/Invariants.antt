use Rattle.std.proofs.Common.{◌≡◌, take}
use Rattle.geo_poly.specs.Monomials.{degree_of}
use Rattle.geo_poly.proofs.monomials.Monomial.degree.Given as goal

abbrev pub invariant-loop-exponent : goal.invariant-loop-exponent
invariant-loop-exponent l = l.degree ≡ degree_of (take l.exponent-index l.exponent-items)
