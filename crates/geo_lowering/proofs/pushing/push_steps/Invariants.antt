use Rattle.std.proofs.Common.{◌≡◌, ◌≤◌, ◌+◌, ◌++◌, length, map, drop}
use Rattle.geo_lowering.specs.StepForms.{step_form}
use Rattle.geo_lowering.specs.Inner.StepLists.{AreStepsFrom}
use Rattle.geo_lowering.proofs.pushing.push_steps.Given as goal

-- what is pushed, and then what is left, are all steps; and what is left are steps over what is pushed
abbrev pub invariant-loop-step : goal.invariant-loop-step
invariant-loop-step l =
    (map (step_form l.initial.steps.nodes) l.steps.steps ++ map (step_form l.initial.steps.nodes) (drop l.step-index l.list)
    ≡ map (step_form l.initial.steps.nodes) l.initial.steps.steps ++ map (step_form l.initial.steps.nodes) l.list)
    × AreStepsFrom l.steps.nodes (length l.steps.steps) l.steps.params (drop l.step-index l.list)
    × (length l.steps.steps + length (drop l.step-index l.list) ≤ 512)
    × (l.steps.nodes ≡ l.initial.steps.nodes)
    × (l.steps.params ≡ l.initial.steps.params)
