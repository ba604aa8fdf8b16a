use Rattle.geo_place.specs.Reckonings.{inverse}
use Rattle.geo_place.proofs.results.quotient_of.Goals as goal

pub returns : goal.returns
returns c = λ e f h k. c.product_of.ensures e (inverse f) h (c.inverse_of.ensures f k)
