use mir.Syntax.{w128}
use Rattle.std.proofs.lemmas.Int.{to_z-of_z, to_z_pos}
use Rattle.frac_laws.proofs.divisors.gcd.Goals as goal

pub returns-clause-greatest : goal.returns-clause-greatest
returns-clause-greatest c =
    let a = to_z-of_z w128 c.args.a c.ranges.a in
    let b = to_z-of_z w128 c.args.b c.ranges.b in
    rw (to_z_pos w128 c.common_divisor.result c.common_divisor.ensures.fits)
    (rw (c.unsigned_abs.ensures.value, c.unsigned_abs-2.ensures.value, a, b) at c.common_divisor.ensures.greatest)
