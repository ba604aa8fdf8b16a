use Rattle.std.proofs.Common.{◌≡◌, ◌++◌, drop}
use Rattle.geo_poly.proofs.Cuts.{reduced, common_exponent}
use Rattle.geo_poly.specs.Shared.{told}
use Rattle.geo_poly.proofs.division.common_monomial.Given as goal

abbrev pub invariant-loop-v : goal.invariant-loop-v
invariant-loop-v l = let f = common_exponent l.known (told l.p) in l.common ++ reduced f (drop l.v-index l.v-items) ≡ reduced f l.v-items
