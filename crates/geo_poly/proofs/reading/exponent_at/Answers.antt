use Rattle.std.proofs.Common.{arith}
use Rattle.geo_poly.specs.Shared.{told_powers}
use Rattle.geo_poly.proofs.Quotients.{exponent-le}
use Rattle.geo_poly.proofs.reading.exponent_at.Goals as goal

pub loop-first-init : goal.loop-first-init
loop-first-init c = record {
  index = c.requires.index;
  whole = omega arith;
  small = omega (arith, exponent-le c.args.v (told_powers c.args.p.now c.args.id), c.requires.monomial.degree_fits);
}
