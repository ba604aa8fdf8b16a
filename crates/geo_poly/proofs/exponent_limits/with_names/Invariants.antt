use Rattle.geo_poly.proofs.ExponentLimits.{AreNamed}
use Rattle.geo_poly.proofs.exponent_limits.with_names.Given as goal

abbrev pub invariant-loop-i : goal.invariant-loop-i
invariant-loop-i l = AreNamed l.p.vars.now l.numbered l.i l.bounds.items
