use Rattle.std.proofs.Common.{◌≡◌, ◌++◌, drop}
use Rattle.geo_poly.specs.Inner.Visits.{marked}
use Rattle.geo_poly.proofs.polynomial_variables.marked_variables.Given as goal

abbrev pub invariant-loop-i : goal.invariant-loop-i
invariant-loop-i l = l.found.items ++ marked (drop l.i l.vars) (drop l.i l.known) ≡ marked l.vars l.known
