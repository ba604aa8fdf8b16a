use Rattle.std.proofs.Common.{◌-◌, ◌^◌, length}
use Rattle.elim_apply.specs.Kept.{AreKnownRows}
use Rattle.fraction_poly.specs.TableRows.{HasPointsBelow}
use Rattle.geo_poly.specs.PolynomialVariables.{AllVariables}
use Rattle.geo_chain.specs.Written.{state}
use Rattle.geo_chain.proofs.Chaining.{IsUnderWay}
use Rattle.geo_chain.proofs.chains.work_steps.Given as goal

abbrev pub invariant-loop-last : goal.invariant-loop-last
invariant-loop-last g l = record {
  way : IsUnderWay l.frame l.steps l.known l.initial.budget.left l.fn.first l.budget.left l.last
      (state l.initial.log (g.K.Sink.held l.initial.sink) (g.K.Sink.faults l.initial.sink))
      (state l.log (g.K.Sink.held l.sink) (g.K.Sink.faults l.sink));
  points : AllVariables (HasPointsBelow (length l.steps.steps)) l.last;
  numbers : AreKnownRows l.steps l.numbers;
}

-- the lines that may still be counted
abbrev pub decreases-loop-last : goal.decreases-loop-last
decreases-loop-last g l = 2 ^ 64 - l.log.lines
