use Rattle.std.proofs.Common.{List, map}
use Rattle.geo_place.specs.declared.placed.At.{At}
use Rattle.geo_figure.specs.Drawing.{share_turn}
use Rattle.geo_figure.specs.Inner.{IsFrame, Stops}
use Rattle.geo_place.proofs.ItemTests.{passed_on}
use Rattle.geo_figure.proofs.FrameTurns.{cells_stop}
use Rattle.geo_figure.proofs.cells.cells_in.Goals as goal

pub returns-in_err-cell_of-clause-stops : goal.returns-in_err-cell_of-clause-stops
returns-in_err-cell_of-clause-stops c =
    let points = c.args.points.now in
    let e = c.in_err-cell_of.field-0.0 in
    passed_on c.from_residual.result e (λ x. (all : List At) → IsFrame c.args.frame.now all → Stops (map (share_turn all) points) x) c.from_residual.ensures.1
    (λ all h. cells_stop points c.loop-at.at-index c.at-item.result c.loop-at-test.true c.at-item.is all e (c.in_err-cell_of.ensures all h) (c.loop-at.invariant.passed all h))
