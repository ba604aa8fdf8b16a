use Rattle.geo_poly.proofs.MonomialOrder.{exponent-product}
use Rattle.geo_poly.proofs.laws.product_adds_exponents.Goals as goal

pub returns : goal.returns
returns c = λ m n v. exponent-product v m n
