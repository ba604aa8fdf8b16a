use Rattle.std.proofs.Common.{map}
use Rattle.geo_figure.specs.Drawing.{x_of, y_of}
use Rattle.geo_figure.proofs.FrameTurns.{frame_found, no_points}
use Rattle.geo_figure.proofs.bounds.wider_frame.Goals as goal

pub returns : goal.returns
returns c = λ points n h.
    let at = c.args.at.now in
    frame_found at points c.wider-x.result c.wider-y.result (c.wider-x.ensures (map x_of points) (x_of at) (no_points points x_of n) h.x c.x_of.ensures)
    (c.wider-y.ensures (map y_of points) (y_of at) (no_points points y_of n) h.y c.y_of.ensures) c.frame_from.result c.frame_from.ensures.frame c.frame_from.ensures.refused
