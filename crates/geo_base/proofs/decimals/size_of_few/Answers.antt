use Rattle.std.proofs.Common.{arith}
use Rattle.geo_base.proofs.DigitLemmas.{few_fit, next_digit}
use Rattle.geo_base.proofs.decimals.size_of_few.Goals as goal

pub overflow_mul-size : goal.overflow_mul-size
overflow_mul-size c =
    let next = next_digit c.args.digits.now c.loop-byte.byte-index c.requires.digits c.loop-byte-test.true in
    omega (arith, c.loop-byte.invariant, few_fit c.args.digits.now c.requires.digits c.requires.few)

pub overflow_sub-size : goal.overflow_sub-size
overflow_sub-size c = (next_digit c.args.digits.now c.loop-byte.byte-index c.requires.digits c.loop-byte-test.true).low

pub overflow_add-size : goal.overflow_add-size
overflow_add-size c =
    let next = next_digit c.args.digits.now c.loop-byte.byte-index c.requires.digits c.loop-byte-test.true in
    omega (arith, c.loop-byte.invariant, few_fit c.args.digits.now c.requires.digits c.requires.few)

pub loop-byte-preserved : goal.loop-byte-preserved
loop-byte-preserved c =
    let next = next_digit c.args.digits.now c.loop-byte.byte-index c.requires.digits c.loop-byte-test.true in
    omega (arith, c.loop-byte.invariant)
