use Rattle.std.proofs.Common.{◌<◌, ◌≤◌, unsigned_abs, arith}
use Rattle.std.specs.Int.{w128}
use Rattle.std.proofs.lemmas.Bool.Decides.{nat_tests}
use Rattle.std.proofs.lemmas.Int.{to_z-of_z}
use Rattle.geo_poly.specs.Shared.{told}
use Rattle.geo_poly.proofs.SpecialisedLaws.{small_weight}
use Rattle.geo_poly.proofs.specialisation.is_too_heavy.Goals as goal

pub returns-then-unsigned_abs-le1-clause-light : goal.returns-then-unsigned_abs-le1-clause-light
returns-then-unsigned_abs-le1-clause-light c = λ _.
    let size = rw (to_z-of_z w128 c.args.value c.ranges.value) at c.unsigned_abs.ensures.value in
    let one : unsigned_abs c.args.value ≤ 1 = omega (arith, size, c.if-unsigned_abs-le1.true) in
    omega (arith, small_weight c.args.v c.args.value (told c.args.p.now) one, c.requires.polynomial.norm_fits)

pub returns-clause-heavy : goal.returns-clause-heavy
returns-clause-heavy c = λ e.
    let w = rw (to_z-of_z w128 c.args.value c.ranges.value) at c.weight_at.ensures in
    let more : 170141183460469231731687303715884105727 < c.weight_at.result = grind (arith, nat_tests, e) in
    omega (arith, w, more)

pub returns-clause-light : goal.returns-clause-light
returns-clause-light c = λ e.
    let w = rw (to_z-of_z w128 c.args.value c.ranges.value) at c.weight_at.ensures in
    let most : c.weight_at.result ≤ 170141183460469231731687303715884105727 = grind (arith, nat_tests, e) in
    omega (arith, w, most)
