use Rattle.std.proofs.Common.{◌≡◌, length, take}
use Rattle.geo_poly.specs.Inner.Limits.{AreGreatest}
use Rattle.geo_poly.specs.Shared.{told}
use Rattle.geo_poly.proofs.exponent_limits.set_exponents.Given as goal

abbrev pub invariant-loop-id : goal.invariant-loop-id
invariant-loop-id l = record {
  whole : length l.numbers.items ≡ length l.p.vars.now;
  greatest : AreGreatest l.p.vars.now l.numbers.items (take l.id-index (told l.p));
}
