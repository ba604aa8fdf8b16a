use Rattle.std.proofs.Common.{sym, subst}
use Rattle.geo_terms.specs.Stores.{tree_of}
use Rattle.geo_lowering.specs.StepForms.{step_form}
use Rattle.geo_place.specs.Formulas.{reckoned, spot_of, step_spot}
use Rattle.geo_place.specs.Inner.{AreResults, placement_of}
use Rattle.geo_place.proofs.sketch.Sketch.step.Goals as goal

pub returns-in-Inter : goal.returns-in-Inter
returns-in-Inter c =
    let P = placement_of c.args.self.now in
    subst (λ s. AreResults c.crossing.result (step_spot P c.args.y.0 (step_form c.args.terms.now s))) (sym c.in-Inter.is)
    (c.crossing.ensures (P.point c.in-Inter.u.0) (P.point c.in-Inter.v.0) (P.point c.in-Inter.p.0) (P.point c.in-Inter.q.0) c.point-u.ensures c.point-v.ensures c.point-p.ensures c.point-q.ensures)

pub returns-in-Pratio : goal.returns-in-Pratio
returns-in-Pratio c =
    let P = placement_of c.args.self.now in
    let W = P.point c.in-Pratio.w.0 in
    subst (λ s. AreResults c.onwards.result (step_spot P c.args.y.0 (step_form c.args.terms.now s))) (sym c.in-Pratio.is)
    (c.onwards.ensures (spot_of W) (reckoned P (tree_of c.args.terms.now c.in-Pratio.r)) (P.point c.in-Pratio.u.0) (P.point c.in-Pratio.v.0)
    (c.there-in-Pratio.ensures W c.point-in-Pratio.ensures) c.term-number.ensures c.point-in-Pratio-2.ensures c.point-in-Pratio-3.ensures)

pub returns-in-Tratio : goal.returns-in-Tratio
returns-in-Tratio c =
    let P = placement_of c.args.self.now in
    let U = P.point c.in-Tratio.u.0 in
    subst (λ s. AreResults c.aside.result (step_spot P c.args.y.0 (step_form c.args.terms.now s))) (sym c.in-Tratio.is)
    (c.aside.ensures (spot_of U) (reckoned P (tree_of c.args.terms.now c.in-Tratio.r)) U (P.point c.in-Tratio.v.0)
    (c.there-in-Tratio.ensures U c.point-u-in-Tratio.ensures) c.term-number-in-Tratio.ensures c.point-u-in-Tratio.ensures c.point-v-in-Tratio.ensures)

pub returns-in-Weights : goal.returns-in-Weights
returns-in-Weights c =
    let P = placement_of c.args.self.now in
    let nodes = c.args.terms.now in
    subst (λ s. AreResults c.weighted.result (step_spot P c.args.y.0 (step_form nodes s))) (sym c.in-Weights.is)
    (c.weighted.ensures (P.point c.in-Weights.o.0) (P.point c.in-Weights.u.0) (P.point c.in-Weights.v.0) (reckoned P (tree_of nodes c.in-Weights.r))
    (reckoned P (tree_of nodes c.in-Weights.s)) c.point-in-Weights.ensures c.point-in-Weights-2.ensures c.point-in-Weights-3.ensures
    c.term-r.ensures c.term-s.ensures)
