use Rattle.std.proofs.Common.{◌≡◌, ◌<◌, ◌≤◌, All, Any, drop, length}
use Rattle.geo_poly.specs.Monomials.{exponent}
use Rattle.geo_poly.specs.Shared.{told}
use Rattle.geo_poly.proofs.division.least_exponent.Given as goal

abbrev pub invariant-loop-i : goal.invariant-loop-i
invariant-loop-i l = record {
  within : l.i < length l.p.list.now;
  at_most : All (λ t. l.least ≤ exponent l.v t.0) (drop l.i (told l.p));
  reached : Any (λ t. exponent l.v t.0 ≡ l.least) (told l.p);
}

abbrev pub decreases-loop-i : goal.decreases-loop-i
decreases-loop-i l = l.i
