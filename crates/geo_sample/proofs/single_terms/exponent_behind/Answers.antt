use Rattle.std.proofs.Common.{arith}
use Rattle.geo_poly.proofs.Quotients.{exponent-le}
use Rattle.geo_sample.proofs.single_terms.exponent_behind.Goals as goal

pub loop-w-init : goal.loop-w-init
loop-w-init c = record {
  so_far = omega arith;
  small = omega (arith, exponent-le c.args.v c.args.powers.now, c.requires.degree_fits);
}
