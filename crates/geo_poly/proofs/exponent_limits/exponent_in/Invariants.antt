use Rattle.std.proofs.Common.{◌≡◌, ◌-◌, ◌^◌, ◌+◌, ◌<◌, min, drop}
use Rattle.geo_poly.specs.Monomials.{exponent}
use Rattle.geo_poly.proofs.exponent_limits.exponent_in.Given as goal

abbrev pub invariant-loop-w : goal.invariant-loop-w
invariant-loop-w l = record {
  small : l.total < 2 ^ 32;
  sum : min (l.total + exponent l.v (drop l.w-index l.exponents)) (2 ^ 32 - 1) ≡ min (exponent l.v l.exponents) (2 ^ 32 - 1);
}
