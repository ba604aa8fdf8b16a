use Rattle.std.proofs.Common.{List}
use Rattle.elim_apply.specs.Kept.{AreKnownRows}
use Rattle.geo_logs.specs.Logs.{Item}
use Rattle.geo_poly.specs.Specialise.{NoneZero}
use Rattle.geo_chain.specs.Halting.{Passes}
use Rattle.geo_chain.specs.Tasks.{conditions_before}
use Rattle.geo_chain.specs.Written.{state}
use Rattle.geo_chain.proofs.conditions.work_conditions.Given as goal

-- the conditions before were written, and none of the ends is 0
abbrev pub invariant-loop-i : goal.invariant-loop-i
invariant-loop-i g l = record {
  passes : (goals : List Item) → Passes
      (conditions_before l.frame l.problem.steps l.problem.steps.nodes l.problem.conditions goals 0 l.initial.findings.known
      l.initial.findings.ends l.initial.budget.left)
      (conditions_before l.frame l.problem.steps l.problem.steps.nodes l.problem.conditions goals l.i l.findings.known l.findings.ends
      l.budget.left)
      (state l.initial.log (g.K.Sink.held l.initial.sink) (g.K.Sink.faults l.initial.sink))
      (state l.log (g.K.Sink.held l.sink) (g.K.Sink.faults l.sink));
  nonzero : NoneZero l.findings.ends;
  numbers : AreKnownRows l.problem.steps l.numbers;
}
