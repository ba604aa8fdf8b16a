use Rattle.std.proofs.Common.{arith}
use Rattle.geo_poly.proofs.WordInstance.{times-below, times-powers}
use Rattle.geo_poly.proofs.word_keys.DigitsMonomialKeys.times.Goals as goal

pub overflow_add-result : goal.overflow_add-result
overflow_add-result c =
    omega (arith, times-below c.args.self.now c.args.a c.args.b c.requires.left c.requires.right c.requires.reach, c.count-count.ensures.words)

pub returns-clause-within : goal.returns-clause-within
returns-clause-within c = times-below c.args.self.now c.args.a c.args.b c.requires.left c.requires.right c.requires.reach

pub returns-clause-product : goal.returns-clause-product
returns-clause-product c = times-powers c.args.self.now c.args.a c.args.b c.requires.left c.requires.right c.requires.reach
