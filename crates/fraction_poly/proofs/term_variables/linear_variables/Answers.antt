use Rattle.std.proofs.Common.{rules}
use Rattle.geo_terms.specs.Stores.{tree_of}
use Rattle.fraction_poly.proofs.Leaves.{linear_longer}
use Rattle.fraction_poly.proofs.term_variables.linear_variables.Goals as goal

pub returns-clause-linear : goal.returns-clause-linear
returns-clause-linear c =
    linear_longer c.push_linear.new.variables.items c.in_order.result c.in_order.ensures.known
    (tree_of c.args.terms.now c.args.id) (c.in_ok-push_linear.ensures.linear (search rules))
