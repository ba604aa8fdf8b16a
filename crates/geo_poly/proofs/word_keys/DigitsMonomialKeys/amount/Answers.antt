use Rattle.std.proofs.Common.{ℕ, ◌+◌, ◌<◌, sym, ap, subst, ◌∙◌}
use Rattle.mono_store.specs.Words.{powers_of_word, word_count}
use Rattle.mono_store.proofs.WordPowers.{power_before-below, power_before-powers}
use Rattle.geo_poly.proofs.word_keys.DigitsMonomialKeys.amount.Goals as goal

pub power-requires-clause-fits : goal.power-requires-clause-fits
power-requires-clause-fits c = c.has_room.ensures.0 c.if-not-has_room.false

pub returns : goal.returns
returns c = λ next within some first.
    let limits = c.args.self.now in
    let reach = c.has_room.ensures.0 c.if-not-has_room.false in (
      subst (λ (k : ℕ). next + k < word_count limits) (sym c.power.ensures.word) (power_before-below limits c.args.var c.args.exp next within some first reach),
      ap (λ (k : ℕ). powers_of_word limits (next + k)) c.power.ensures.word ∙ power_before-powers limits c.args.var c.args.exp next within some first reach,
    )
