use Rattle.std.proofs.Common.{◌*◌, ◌^◌, ◌-◌, ◌≤◌, arith}
use Rattle.std.proofs.Math.Nat.{mul-le-mul}
use Rattle.elim_apply.proofs.capped.whole_product.Goals as goal

pub overflow_mul-result : goal.overflow_mul-result
overflow_mul-result c =
    let a : c.args.a ≤ 2 ^ 64 - 1 = omega (arith, c.ranges.a.fits) in
    let b : c.args.b ≤ 2 ^ 64 - 1 = omega (arith, c.ranges.b.fits) in
    let both : c.args.a * c.args.b ≤ (2 ^ 64 - 1) * (2 ^ 64 - 1) = mul-le-mul a b in
    omega (arith, both)
