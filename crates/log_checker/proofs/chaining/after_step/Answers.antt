use Rattle.std.proofs.Common.{ap, sym, ◌∙◌}
use Rattle.proof_log.specs.declared.log.Line.TheVariants.{Ratio as RatioLine}
use Rattle.geo_logs.specs.Chains.{line_of, moves}
use Rattle.geo_logs.specs.declared.moves.Move.TheVariants.{Coords, Point}
use Rattle.log_checker.proofs.DueSteps.{cut_goes, cut_stops, move_goes, move_stops}
use Rattle.log_checker.proofs.chaining.after_step.Goals as goal

pub returns-in-Ratio-clause-step : goal.returns-in-Ratio-clause-step
returns-in-Ratio-clause-step c =
    let made = c.ratio_move-mv.ensures in
    let line = c.in-Ratio.is ∙ ap (λ o. RatioLine c.in-Ratio.var c.in-Ratio.lemma o c.in-Ratio.poly) made.2 ∙ ap (λ m. line_of (moves m c.in-Ratio.poly)) (sym made.1) in
    move_goes c.args.steps.now c.args.known.now c.args.budget.now.left c.args.before.now c.after_move.result c.ratio_move-mv.result c.in-Ratio.poly c.args.line c.after_move.new.budget.left
    line c.after_move.ensures.result c.after_move.ensures.moved c.after_move.ensures.paid

pub returns-in-Ratio-clause-refused : goal.returns-in-Ratio-clause-refused
returns-in-Ratio-clause-refused c =
    let made = c.ratio_move-mv.ensures in
    let line = c.in-Ratio.is ∙ ap (λ o. RatioLine c.in-Ratio.var c.in-Ratio.lemma o c.in-Ratio.poly) made.2 ∙ ap (λ m. line_of (moves m c.in-Ratio.poly)) (sym made.1) in
    move_stops c.args.steps.now c.args.known.now c.args.budget.now.left c.args.before.now c.after_move.result c.ratio_move-mv.result c.in-Ratio.poly c.args.line line c.after_move.ensures.refused

pub returns-in-Point-clause-step : goal.returns-in-Point-clause-step
returns-in-Point-clause-step c =
    move_goes c.args.steps.now c.args.known.now c.args.budget.now.left c.args.before.now c.after_move-in-Point.result (Point c.in-Point.at) c.in-Point.poly c.args.line
    c.after_move-in-Point.new.budget.left c.in-Point.is c.after_move-in-Point.ensures.result c.after_move-in-Point.ensures.moved c.after_move-in-Point.ensures.paid

pub returns-in-Point-clause-refused : goal.returns-in-Point-clause-refused
returns-in-Point-clause-refused c =
    move_stops c.args.steps.now c.args.known.now c.args.budget.now.left c.args.before.now c.after_move-in-Point.result (Point c.in-Point.at) c.in-Point.poly c.args.line c.in-Point.is
    c.after_move-in-Point.ensures.refused

pub returns-in-Coords-clause-step : goal.returns-in-Coords-clause-step
returns-in-Coords-clause-step c =
    move_goes c.args.steps.now c.args.known.now c.args.budget.now.left c.args.before.now c.after_move-in-Coords.result Coords c.in-Coords.poly c.args.line
    c.after_move-in-Coords.new.budget.left c.in-Coords.is c.after_move-in-Coords.ensures.result c.after_move-in-Coords.ensures.moved c.after_move-in-Coords.ensures.paid

pub returns-in-Coords-clause-refused : goal.returns-in-Coords-clause-refused
returns-in-Coords-clause-refused c =
    move_stops c.args.steps.now c.args.known.now c.args.budget.now.left c.args.before.now c.after_move-in-Coords.result Coords c.in-Coords.poly c.args.line c.in-Coords.is
    c.after_move-in-Coords.ensures.refused

pub returns-in-Cut-clause-step : goal.returns-in-Cut-clause-step
returns-in-Cut-clause-step c =
    cut_goes c.args.steps.now c.args.known.now c.args.budget.now.left c.args.before.now c.after_cut.result c.in-Cut.by c.in-Cut.poly
    c.args.line c.in-Cut.is c.after_cut.ensures.result c.after_cut.ensures.cut

pub returns-in-Cut-clause-refused : goal.returns-in-Cut-clause-refused
returns-in-Cut-clause-refused c =
    cut_stops c.args.steps.now c.args.known.now c.args.budget.now.left c.args.before.now c.after_cut.result c.in-Cut.by c.in-Cut.poly c.args.line c.in-Cut.is c.after_cut.ensures.refused
