use Rattle.std.proofs.Common.{arith}
use Rattle.geo_poly.proofs.WordInstance.{times-below, times-powers}
use Rattle.geo_poly.proofs.word_keys.DigitsMonomialKeys.adds_up.Goals as goal

pub returns : goal.returns
returns c is = record {
  few = omega (arith, c.count-count.ensures.words);
  sums = λ a b a_in b_in reach. (times-below c.args.self.now a b a_in b_in reach, times-powers c.args.self.now a b a_in b_in reach);
}
