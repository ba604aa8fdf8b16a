use Rattle.std.proofs.Common.{◌∙◌, refl, sym, ap, subst}
use Rattle.proof_log.specs.Writable.{IsWritable}
use Rattle.proof_log.specs.declared.log.Line.TheVariants.{Ratio as RatioLine, Point as PointLine, Coords as CoordsLine}
use Rattle.geo_logs.specs.Chains.{line_of, moves}
use Rattle.geo_logs.specs.declared.moves.Move.TheVariants.{Coords, Point}
use Rattle.log_checker.proofs.ByText.{cut_to, move_to}
use Rattle.log_checker.proofs.by_text.due_line.Goals as goal

pub returns-in-Ratio-clause-step : goal.returns-in-Ratio-clause-step
returns-in-Ratio-clause-step c =
    let made = c.ratio_move-mv.ensures in
    let poly = c.in_ok-poly-in-Ratio.poly in
    let fits = subst IsWritable c.in-Ratio.is c.requires.writable in
    move_to c.args.steps.now c.count.ensures.valid c.args.known.now c.args.budget.now.left c.args.before.now c.requires.named c.requires.written
    c.ratio_move-mv.result poly c.move_result.new.budget.left (RatioLine c.in-Ratio.var c.in-Ratio.lemma c.in-Ratio.at poly)
    c.in_ok-poly-in-Ratio.ensures.moved c.in_ok-poly-in-Ratio.ensures.paid
    (ap (λ o. RatioLine c.in-Ratio.var c.in-Ratio.lemma o poly) made.2 ∙ ap (λ m. line_of (moves m poly)) (sym made.1)) refl (λ p. (fits.0, fits.1, fits.2, p))

pub returns-in-Point-clause-step : goal.returns-in-Point-clause-step
returns-in-Point-clause-step c =
    let poly = c.in_ok-poly-in-Point.poly in
    let fits = subst IsWritable c.in-Point.is c.requires.writable in
    move_to c.args.steps.now c.count.ensures.valid c.args.known.now c.args.budget.now.left c.args.before.now c.requires.named c.requires.written
    (Point c.in-Point.at) poly c.move_result-in-Point.new.budget.left (PointLine c.in-Point.at poly)
    c.in_ok-poly-in-Point.ensures.moved c.in_ok-poly-in-Point.ensures.paid refl refl (λ p. (fits.0, p))

pub returns-in-Coords-clause-step : goal.returns-in-Coords-clause-step
returns-in-Coords-clause-step c =
    let poly = c.in_ok-poly-in-Coords.poly in
    move_to c.args.steps.now c.count.ensures.valid c.args.known.now c.args.budget.now.left c.args.before.now c.requires.named c.requires.written
    Coords poly c.move_result-in-Coords.new.budget.left (CoordsLine poly)
    c.in_ok-poly-in-Coords.ensures.moved c.in_ok-poly-in-Coords.ensures.paid refl refl (λ p. p)

pub returns-in-Cut-clause-step : goal.returns-in-Cut-clause-step
returns-in-Cut-clause-step c =
    let fits = subst IsWritable c.in-Cut.is c.requires.writable in
    cut_to c.args.steps.now c.count.ensures.valid c.args.known.now c.args.budget.now.left c.args.before.now c.requires.named c.requires.written
    c.in-Cut.by c.in_ok-poly-in-Cut.poly c.in_ok-poly-in-Cut.ensures.cut fits.0
