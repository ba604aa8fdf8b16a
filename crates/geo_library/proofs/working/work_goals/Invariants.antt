use Rattle.std.proofs.Common.{drop, map}
use Rattle.elim_apply.specs.Kept.{AreKnownRows}
use Rattle.geo_library.specs.Inner.Asking.{asked_form}
use Rattle.geo_library.proofs.GoalsUnderWay.{AreGoalsUnderWay}
use Rattle.geo_library.proofs.working.work_goals.Given as goal

abbrev pub invariant-loop-goal : goal.invariant-loop-goal
invariant-loop-goal l =
    AreGoalsUnderWay l.steps l.known l.missing (map (asked_form l.steps.nodes) l.goals) (map (asked_form l.steps.nodes) (drop l.goal-index l.goals)) l.fn.now.lines l.fn.now.budget.left
    l.now.lines l.now.budget.left
    × AreKnownRows l.steps l.numbers
