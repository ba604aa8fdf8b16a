use Rattle.geo_poly.proofs.VariablesInOrder.{none_rise}
use Rattle.geo_poly.proofs.poly.Poly.constant.Goals as goal

pub monomial-requires-clause-rising : goal.monomial-requires-clause-rising
monomial-requires-clause-rising c = rw c.new.ensures.items none_rise
