use Rattle.std.proofs.Common.{ℕ, ◌+◌, ◌<◌, sym, ap, subst, ◌∙◌, arith}
use Rattle.mono_store.specs.Words.{powers_of_word, word_count}
use Rattle.mono_store.proofs.WordPowers.{power_before-below, power_before-powers}
use Rattle.mono_store.proofs.words.Digits.word_before.Goals as goal

pub overflow_add-result : goal.overflow_add-result
overflow_add-result c =
    let next : c.args.next < word_count c.args.self.now = omega (arith, c.if-next-words.true, c.words.ensures.count) in
    let whole = power_before-below c.args.self.now c.args.var c.args.exp c.args.next next c.requires.exponent (c.requires.first next)
    (c.has_room.ensures.0 c.if-has_room.true) in
    omega (arith, c.power.ensures.word, whole, c.power.ensures.words)

pub returns-then-has_room-clause-within : goal.returns-then-has_room-clause-within
returns-then-has_room-clause-within c =
    let next : c.args.next < word_count c.args.self.now = omega (arith, c.if-next-words.true, c.words.ensures.count) in
    subst (λ (k : ℕ). c.args.next + k < word_count c.args.self.now) (sym c.power.ensures.word)
    (power_before-below c.args.self.now c.args.var c.args.exp c.args.next next c.requires.exponent (c.requires.first next)
    (c.has_room.ensures.0 c.if-has_room.true))

pub returns-then-has_room-clause-powers : goal.returns-then-has_room-clause-powers
returns-then-has_room-clause-powers c =
    let next : c.args.next < word_count c.args.self.now = omega (arith, c.if-next-words.true, c.words.ensures.count) in
    ap (λ (k : ℕ). powers_of_word c.args.self.now (c.args.next + k)) c.power.ensures.word
    ∙ power_before-powers c.args.self.now c.args.var c.args.exp c.args.next next c.requires.exponent (c.requires.first next)
    (c.has_room.ensures.0 c.if-has_room.true)
