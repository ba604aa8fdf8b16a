use Rattle.std.proofs.Common.{◌≡◌, ◌+◌, ◌≤◌, drop}
use Rattle.geo_poly.specs.Monomials.{exponent}
use Rattle.geo_sample.proofs.single_terms.exponent_behind.Given as goal

abbrev pub invariant-loop-w : goal.invariant-loop-w
invariant-loop-w l = record {
  so_far : l.total + exponent l.v (drop l.w-index l.powers) ≡ exponent l.v l.powers;
  small : exponent l.v l.powers ≤ 65535;
}
