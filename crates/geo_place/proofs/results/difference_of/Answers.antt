use Rattle.geo_place.specs.Reckonings.{opposite}
use Rattle.geo_place.proofs.results.difference_of.Goals as goal

pub returns : goal.returns
returns c = λ e f h k. c.sum_of.ensures e (opposite f) h (c.opposite_of.ensures f k)
