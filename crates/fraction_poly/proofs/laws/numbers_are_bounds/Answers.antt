use Rattle.fraction_poly.proofs.TermBounds.{numbers_bound}
use Rattle.fraction_poly.proofs.laws.numbers_are_bounds.Goals as goal

pub returns : goal.returns
returns c = numbers_bound
