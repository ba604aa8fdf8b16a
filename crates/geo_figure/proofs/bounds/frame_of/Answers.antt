use Rattle.std.proofs.Common.{[], take}
use Rattle.geo_figure.specs.Drawing.{bound_turns}
use Rattle.geo_figure.specs.Inner.{Stops}
use Rattle.geo_place.proofs.ItemTests.{passed_on}
use Rattle.geo_figure.proofs.FrameTurns.{frame_next, frame_stops}
use Rattle.geo_figure.proofs.bounds.frame_of.Goals as goal

pub returns-in_err-next_frame-clause-stops : goal.returns-in_err-next_frame-clause-stops
returns-in_err-next_frame-clause-stops c =
    let points = c.args.points.now in
    let k = c.loop-at.at-index in
    let e = c.in_err-next_frame.field-0.0 in
    passed_on c.from_residual.result e (Stops (bound_turns [] points)) c.from_residual.ensures.1
    (frame_stops points k c.at-item.result c.loop-at-test.true c.at-item.is e (c.in_err-next_frame.ensures (take k points) c.loop-at.invariant.frame) c.loop-at.invariant.passed)

pub loop-at-preserved : goal.loop-at-preserved
loop-at-preserved c =
    let points = c.args.points.now in
    let k = c.loop-at.at-index in
    let n = frame_next points k c.at-item.result c.loop-at-test.true c.at-item.is c.in_ok-next_frame.field-0
    (c.in_ok-next_frame.ensures (take k points) c.loop-at.invariant.frame) c.loop-at.invariant.passed in
    record { frame = n.frame; passed = n.passed }
