use Rattle.std.proofs.Common.{◌-◌, length}
use Rattle.elim_apply.specs.Kept.{AreKnownRows}
use Rattle.fraction_poly.specs.TableRows.{HasPointsBelow}
use Rattle.geo_poly.specs.PolynomialVariables.{AllVariables}
use Rattle.geo_library.proofs.CountedChains.{IsUnderWay}
use Rattle.geo_library.proofs.chains.work_steps.Given as goal

abbrev pub invariant-loop-last : goal.invariant-loop-last
invariant-loop-last l = record {
  way : IsUnderWay l.steps l.known l.initial.now.lines l.initial.now.budget.left l.fn.first l.now.lines l.now.budget.left l.last;
  points : AllVariables (HasPointsBelow (length l.steps.steps)) l.last;
  numbers : AreKnownRows l.steps l.numbers;
}

-- the lines that may still be counted
abbrev pub decreases-loop-last : goal.decreases-loop-last
decreases-loop-last l = 18446744073709551615 - l.now.lines
