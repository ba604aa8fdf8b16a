use Rattle.std.proofs.Common.{◌≡◌}
use Rattle.elim_apply.specs.Kept.{AreKnownRows}
use Rattle.geo_chain.specs.Halting.{Passes}
use Rattle.geo_chain.specs.Tasks.{goals_from}
use Rattle.geo_chain.specs.Written.{state}
use Rattle.geo_chain.proofs.goals.work_goals.Given as goal

-- the goals before were written, and the findings stay
abbrev pub invariant-loop-i : goal.invariant-loop-i
invariant-loop-i g l = record {
  passes : Passes
      (goals_from l.frame l.steps l.terms.nodes l.goals 0 l.initial.findings.known l.initial.findings.ends l.initial.budget.left)
      (goals_from l.frame l.steps l.terms.nodes l.goals l.i l.initial.findings.known l.initial.findings.ends l.budget.left)
      (state l.initial.log (g.K.Sink.held l.initial.sink) (g.K.Sink.faults l.initial.sink))
      (state l.log (g.K.Sink.held l.sink) (g.K.Sink.faults l.sink));
  kept : l.findings ≡ l.initial.findings;
  numbers : AreKnownRows l.steps l.numbers;
}
