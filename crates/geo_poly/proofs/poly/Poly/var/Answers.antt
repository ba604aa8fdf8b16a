use Rattle.geo_poly.proofs.VariablesInOrder.{one_rises}
use Rattle.geo_poly.proofs.poly.Poly.var.Goals as goal

pub monomial-requires-clause-rising : goal.monomial-requires-clause-rising
monomial-requires-clause-rising c =
    rw (c.in_ok-push.ensures.items, c.new-vars.ensures.items) (one_rises c.args.v)
