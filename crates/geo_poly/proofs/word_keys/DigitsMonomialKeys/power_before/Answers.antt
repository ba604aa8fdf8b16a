use Rattle.std.proofs.Common.{ℕ, ◌+◌, ◌<◌, sym, ap, subst, ◌∙◌, arith}
use Rattle.mono_store.specs.Words.{powers_of_word, word_count}
use Rattle.mono_store.proofs.WordPowers.{known-fits, power_before-below, power_before-powers}
use Rattle.geo_poly.proofs.word_keys.DigitsMonomialKeys.power_before.Goals as goal

pub power-requires-clause-known : goal.power-requires-clause-known
power-requires-clause-known c = known-fits c.args.self.now c.args.var c.args.exp c.requires.exponent c.requires.reach

pub overflow_add-result : goal.overflow_add-result
overflow_add-result c =
    let whole = power_before-below c.args.self.now c.args.var c.args.exp c.args.next c.requires.next c.requires.exponent c.requires.first
    c.requires.reach in
    omega (arith, c.power.ensures.word, whole, c.power.ensures.words)

pub returns-clause-within : goal.returns-clause-within
returns-clause-within c =
    subst (λ (k : ℕ). c.args.next + k < word_count c.args.self.now) (sym c.power.ensures.word)
    (power_before-below c.args.self.now c.args.var c.args.exp c.args.next c.requires.next c.requires.exponent c.requires.first
    c.requires.reach)

pub returns-clause-powers : goal.returns-clause-powers
returns-clause-powers c =
    ap (λ (k : ℕ). powers_of_word c.args.self.now (c.args.next + k)) c.power.ensures.word
    ∙ power_before-powers c.args.self.now c.args.var c.args.exp c.args.next c.requires.next c.requires.exponent c.requires.first
    c.requires.reach
