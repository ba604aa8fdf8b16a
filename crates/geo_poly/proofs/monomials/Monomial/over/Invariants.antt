use Rattle.std.proofs.Common.{◌≡◌, ◌++◌, drop}
use Rattle.geo_poly.specs.Division.{quotient}
use Rattle.geo_poly.proofs.monomials.Monomial.over.Given as goal

abbrev pub invariant-loop-v : goal.invariant-loop-v
invariant-loop-v l = l.rest ++ quotient (drop l.v-index l.v-items) l.by ≡ quotient l.v-items l.by
