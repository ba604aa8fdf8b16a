use Rattle.std.proofs.Common.{arith}
use Rattle.geo_poly.specs.Shared.{told_powers}
use Rattle.geo_poly.proofs.Capped.{denominators-le}
use Rattle.geo_poly.proofs.replacement_bounds.denominators_at.Goals as goal

pub loop-first-init : goal.loop-first-init
loop-first-init c = record {
  index = c.requires.index;
  so_far = omega arith;
  small = omega (arith, denominators-le c.args.rows.now (told_powers c.args.p.now c.args.id) c.requires.powers, c.requires.monomial.degree_fits);
}
