use Rattle.std.proofs.Common.{[], map, refl, subst}
use Rattle.geo_figure.specs.Drawing.{bound_turns, draw_turns, share_turn}
use Rattle.geo_figure.specs.Inner.{IsFrameOf, Stops}
use Rattle.geo_place.proofs.ItemTests.{passed_on}
use Rattle.geo_figure.proofs.FrameTurns.{if_err, no_more, stop_in}
use Rattle.geo_figure.proofs.cells.cells_of.Goals as goal

pub returns-in_err-frame_of-clause-stops : goal.returns-in_err-frame_of-clause-stops
returns-in_err-frame_of-clause-stops c =
    let points = c.args.points.now in
    let e = c.in_err-frame_of.field-0.0 in
    passed_on c.from_residual.result e (Stops (draw_turns points)) c.from_residual.ensures.1
    (stop_in (draw_turns points) [] (bound_turns [] points) (map (share_turn points) points) e refl tt c.in_err-frame_of.ensures.stops)

pub returns-in-Some-clause-stops : goal.returns-in-Some-clause-stops
returns-in-Some-clause-stops c =
    let points = c.args.points.now in
    if_err c.cells_in.result _ (Stops (draw_turns points))
    (λ e s. stop_in (draw_turns points) (bound_turns [] points) (map (share_turn points) points) [] e (no_more (bound_turns [] points) (map (share_turn points) points)) c.in_ok-frame_of.ensures.passed
    (s points (subst (λ f. IsFrameOf f points) c.in-Some.is c.in_ok-frame_of.ensures.frame).1)) c.cells_in.ensures.stops
