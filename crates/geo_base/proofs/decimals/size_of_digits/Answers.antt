use Rattle.std.proofs.Common.{arith}
use Rattle.geo_base.proofs.DigitLemmas.{next_digit}
use Rattle.geo_base.proofs.decimals.size_of_digits.Goals as goal

pub overflow_sub-digit : goal.overflow_sub-digit
overflow_sub-digit c =
    let next = next_digit c.args.digits.now c.loop-byte.byte-index c.requires c.loop-byte-test.true in
    omega arith

-- the digits so far are past the limit, and those that follow make no number less
pub returns-then-size-digit : goal.returns-then-size-digit
returns-then-size-digit c =
    let next = next_digit c.args.digits.now c.loop-byte.byte-index c.requires c.loop-byte-test.true in
    λ small. omega arith

pub loop-byte-preserved : goal.loop-byte-preserved
loop-byte-preserved c =
    let next = next_digit c.args.digits.now c.loop-byte.byte-index c.requires c.loop-byte-test.true in record {
      value = omega arith;
      fits = omega arith;
    }
