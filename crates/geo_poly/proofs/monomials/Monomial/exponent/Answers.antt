use Rattle.std.proofs.Common.{arith}
use Rattle.geo_poly.proofs.Quotients.{exponent-le}
use Rattle.geo_poly.proofs.monomials.Monomial.exponent.Goals as goal

pub loop-w-init : goal.loop-w-init
loop-w-init c = record {
  so_far = omega arith;
  small = rw c.deref-w-items.ensures.value (omega (arith, exponent-le c.args.v c.self.inside.powers.items, c.self.invariant.degree_fits));
}
