use Rattle.std.proofs.Common.{◌+◌, ◌≤◌}
use Rattle.fraction_poly.specs.Inner.Charges.{charge_below}
use Rattle.fraction_poly.proofs.Multiplied.{AreMultiplied}
use Rattle.fraction_poly.proofs.multiplying.fraction_of.Given as goal

abbrev pub invariant-loop-i : goal.invariant-loop-i
invariant-loop-i g l = record {
  parts : AreMultiplied l.terms l.i l.parts.items;
  ticks : l.ticks ≤ l.fn.ticks + charge_below l.terms l.i;
}
