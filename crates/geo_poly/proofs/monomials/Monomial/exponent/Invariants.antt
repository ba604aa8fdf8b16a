use Rattle.std.proofs.Common.{◌≡◌, ◌+◌, ◌≤◌, drop}
use Rattle.geo_poly.specs.Monomials.{exponent}
use Rattle.geo_poly.proofs.monomials.Monomial.exponent.Given as goal

abbrev pub invariant-loop-w : goal.invariant-loop-w
invariant-loop-w l = record {
  so_far : l.total + exponent l.v (drop l.w-index l.w-items) ≡ exponent l.v l.w-items;
  small : exponent l.v l.w-items ≤ 65535;
}
