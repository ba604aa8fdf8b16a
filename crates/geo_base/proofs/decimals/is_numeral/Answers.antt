use Rattle.std.proofs.Common.{arith}
use Rattle.geo_base.proofs.DigitLemmas.{numeral_test}
use Rattle.geo_base.proofs.decimals.is_numeral.Goals as goal

pub returns-then-not-is_empty : goal.returns-then-not-is_empty
returns-then-not-is_empty c =
    numeral_test c.args.bytes.now c.are_digits.result (grind (arith, c.if-not-is_empty.true)) c.are_digits.ensures
