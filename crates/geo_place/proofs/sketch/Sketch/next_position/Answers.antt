use Rattle.std.proofs.Common.{◌∙◌, length, sym, ap, subst}
use Rattle.geo_lowering.specs.StepForms.{step_form}
use Rattle.geo_place.specs.Formulas.{step_spot}
use Rattle.geo_place.specs.Inner.{AreResults, HasNumber, placement_of}
use Rattle.geo_place.proofs.NextPoints.{form_free, free_there, in_store, inside, next_reckoned}
use Rattle.geo_place.proofs.sketch.Sketch.next_position.Goals as goal

pub free_position-requires-clause-inside : goal.free_position-requires-clause-inside
free_position-requires-clause-inside g c =
    inside g.run c.args.problem.now c.args.values.now c.requires.0 c.args.self.now c.requires.1.0 c.args.step c.requires.1.1 (ap (step_form c.args.problem.now.steps.nodes) c.in-Point.is)

pub step-requires : goal.step-requires
step-requires g c =
    subst (λ nodes. HasNumber nodes c.args.step) (sym c.look-terms.ensures)
    (in_store g.run c.args.problem.now c.args.values.now c.requires.0 c.args.self.now c.requires.1.0 c.args.step c.requires.1.1)

pub returns-in_default : goal.returns-in_default
returns-in_default g c =
    let nodes = c.args.problem.now.steps.nodes in
    let P = placement_of c.args.self.now in
    let n = length c.args.self.now.points.items in
    let a : AreResults c.step.result (step_spot P c.len.result (step_form nodes c.args.step)) =
    subst (λ ns. AreResults c.step.result (step_spot P c.len.result (step_form ns c.args.step))) c.look-terms.ensures c.step.ensures in
    let r = next_reckoned g.run c.args.problem.now c.args.values.now c.requires.0 c.args.self.now c.requires.1.0 c.args.step c.requires.1.1
    (λ e. c.in_default.not-Point (form_free nodes c.args.step e)) c.args.line c.len.result
    (c.len.ensures ∙ c.args.self.now.points.ok.0) c.step.result a c.position_of.result c.position_of.ensures.position
    c.position_of.ensures.refused in
    record { position = r.position; passed = r.passed; stops = r.stops; memory = c.position_of.ensures.memory }

pub returns-in-Point-clause-position : goal.returns-in-Point-clause-position
returns-in-Point-clause-position g c =
    free_there g.run c.args.problem.now c.args.values.now c.requires.0 c.args.self.now c.requires.1.0 c.args.step c.requires.1.1 (ap (step_form c.args.problem.now.steps.nodes) c.in-Point.is)
    c.free_position.result c.free_position.ensures.x c.free_position.ensures.y
