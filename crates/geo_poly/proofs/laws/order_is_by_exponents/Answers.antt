use Rattle.geo_poly.proofs.MonomialOrder.{IsEarlier-from_cmp, cmp_from_IsEarlier}
use Rattle.geo_poly.proofs.laws.order_is_by_exponents.Goals as goal

pub returns : goal.returns
returns c = λ m n h g. (λ e. IsEarlier-from_cmp m n h.in_order g.in_order e, λ e. cmp_from_IsEarlier m n h.in_order g.in_order e)
