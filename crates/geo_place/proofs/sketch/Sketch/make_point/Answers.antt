use Rattle.std.proofs.Common.{◌≡◌, ◌+◌, length, arith, refl, sym, ◌∙◌, ap, subst}
use Rattle.std.specs.Prelude.{Option, Some, None, slice_get}
use Rattle.geo_lowering.specs.StepForms.{StepForm, step_form}
use Rattle.geo_place.specs.Evaluation.{TurnOverflows, make}
use Rattle.geo_place.proofs.MakeTurns.{sketch_next}
use Rattle.geo_place.proofs.NextPoints.{at_form, free_few}
use Rattle.geo_place.proofs.sketch.Sketch.make_point.Goals as goal

pub overflow_add-self : goal.overflow_add-self
overflow_add-self g c =
    let q = c.args.problem.now in
    let at : slice_get q.steps.steps (length c.args.self.now.points.items) ≡ Some c.step-step.result = subst
    (λ i. slice_get q.steps.steps i ≡ Some c.step-step.result) (c.len.ensures ∙ c.args.self.now.points.ok.0) c.step-step.ensures in
    let few = free_few g.run q c.args.values.now c.requires.0 c.args.self.now c.requires.1.0 c.step-step.result at in
    let one = c.free_count.ensures q.steps.nodes in
    omega (arith, few, one)

pub returns-clause-sketch : goal.returns-clause-sketch
returns-clause-sketch g c =
    let q = c.args.problem.now in
    let old = c.args.self.now in
    let form = step_form q.steps.nodes c.step-step.result in
    let at : slice_get q.steps.steps (length old.points.items) ≡ Some c.step-step.result = subst
    (λ i. slice_get q.steps.steps i ≡ Some c.step-step.result) (c.len.ensures ∙ c.args.self.now.points.ok.0) c.step-step.ensures in
    sketch_next g.run old (record { points = c.push.new.self; free = old.free + c.free_count.result; numbers = old.numbers }) c.in_ok-position.position form c.in_ok-push.ensures.items refl
    (ap (λ k. old.free + k) (c.free_count.ensures q.steps.nodes))
    (at_form g.run q c.args.values.now c.requires.0 old c.requires.1.0 c.step-step.result at) c.requires.1.0
    c.in_ok-position.ensures.position

pub returns-clause-passed : goal.returns-clause-passed
returns-clause-passed g c = λ f e.
    let q = c.args.problem.now in
    let old = c.args.self.now in
    let form = step_form q.steps.nodes c.step-step.result in
    let at : slice_get q.steps.steps (length old.points.items) ≡ Some c.step-step.result = subst
    (λ i. slice_get q.steps.steps i ≡ Some c.step-step.result) (c.len.ensures ∙ c.args.self.now.points.ok.0) c.step-step.ensures in
    let same : form ≡ f = ap (λ (o : Option StepForm). elim o [ None ↦ form | Some z ↦ z ]) (sym (at_form g.run q c.args.values.now c.requires.0 old c.requires.1.0 c.step-step.result at) ∙ e) in
    subst (λ z. TurnOverflows g.run.program g.run.placed (make (length old.points.items) z) → ⊥) same c.in_ok-position.ensures.passed
