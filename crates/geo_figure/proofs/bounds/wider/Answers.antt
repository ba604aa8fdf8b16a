use Rattle.geo_figure.specs.Bounds.{greatest, least}
use Rattle.geo_figure.proofs.FrameTurns.{wider_found}
use Rattle.geo_figure.proofs.bounds.wider.Goals as goal

pub returns : goal.returns
returns c = λ xs a n h k.
    wider_found c.args.bounds xs a n c.lesser_of.result c.greater_of.result (c.lesser_of.ensures (least xs) a h.least k) (c.greater_of.ensures (greatest xs) a h.greatest k)
    c.bounds_from.result c.bounds_from.ensures.bounds c.bounds_from.ensures.refused
