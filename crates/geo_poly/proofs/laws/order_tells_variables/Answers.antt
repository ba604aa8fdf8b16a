use Rattle.geo_poly.proofs.Orders.{var_order}
use Rattle.geo_poly.proofs.laws.order_tells_variables.Goals as goal

pub returns : goal.returns
returns c = var_order.exact
