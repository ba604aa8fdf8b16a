use Rattle.std.proofs.Common.{ℕ, map, ◌≡◌, drop}
use Rattle.std.proofs.lemmas.Result.{IfErr-weaker}
use Rattle.log_checker.proofs.PassedOn.{passed_on}
use Rattle.geo_library.specs.Inner.Asking.{asked_form}
use Rattle.geo_library.specs.Inner.GoalsWorked.{IsFirstGoalMiss, IsGoalMissed, TellsMiss}
use Rattle.geo_library.proofs.GoalsUnderWay.{goal_at, goes_on, miss_weaker, missing_told, stops_before, stops_here}
use Rattle.geo_library.proofs.working.work_goals.Goals as goal

pub loop-goal-preserved : goal.loop-goal-preserved
loop-goal-preserved c =
    let s = c.args.steps.now in (
      goes_on s c.args.known.now c.args.missing s.nodes c.args.goals.now c.loop-goal.goal-index c.args.now.lines c.args.now.budget.left c.loop-goal.now.lines c.loop-goal.now.budget.left
          c.loop-goal-test.true c.loop-goal.invariant.0 c.if-not-is_before.ensures c.work_goal.new.now.lines c.work_goal.new.now.budget.left c.in_ok-work_goal.ensures.zero,
      c.work_goal.ensures.numbers,
    )

pub returns-then-not-is_before-clause-missed : goal.returns-then-not-is_before-clause-missed
returns-then-not-is_before-clause-missed c =
    let s = c.args.steps.now in
    IfErr-weaker c.none_missing.result _ (TellsMiss (IsFirstGoalMiss s c.args.known.now c.args.missing c.args.now.lines c.args.now.budget.left (map (asked_form s.nodes) c.args.goals.now)))
    (λ error h. missing_told c.args.missing _ (stops_before s c.args.known.now c.args.missing s.nodes c.args.goals.now c.loop-goal.goal-index c.args.now.lines c.args.now.budget.left
    c.loop-goal.now.lines c.loop-goal.now.budget.left c.loop-goal-test.true c.loop-goal.invariant.0 c.if-not-is_before.ensures) error h)
    c.none_missing.ensures.missing

pub returns-in_err-work_goal-clause-missed : goal.returns-in_err-work_goal-clause-missed
returns-in_err-work_goal-clause-missed c =
    let s = c.args.steps.now in
    let all = IsFirstGoalMiss s c.args.known.now c.args.missing c.args.now.lines c.args.now.budget.left (map (asked_form s.nodes) c.args.goals.now) in
    passed_on c.from_residual-in_err-work_goal.result c.in_err-work_goal.field-0.0 (TellsMiss all) c.from_residual-in_err-work_goal.ensures.1
    (miss_weaker (IsGoalMissed s c.args.known.now c.loop-goal.now.lines c.loop-goal.now.budget.left (asked_form s.nodes (goal_at c.args.goals.now c.loop-goal.goal-index))) all
    (stops_here s c.args.known.now c.args.missing s.nodes c.args.goals.now c.loop-goal.goal-index c.args.now.lines c.args.now.budget.left
    c.loop-goal.now.lines c.loop-goal.now.budget.left c.loop-goal-test.true c.loop-goal.invariant.0 c.if-not-is_before.ensures)
    c.in_err-work_goal.field-0.0 c.in_err-work_goal.ensures.missed)
