use Rattle.std.proofs.Common.{arith}
use Rattle.mono_store.proofs.WordOrder.{word_count-some}
use Rattle.geo_poly.proofs.monomial_keys.MonosMonomialKeys.one.Goals as goal

pub returns-clause-within : goal.returns-clause-within
returns-clause-within c = omega (arith, word_count-some c.args.self.now.limits)
