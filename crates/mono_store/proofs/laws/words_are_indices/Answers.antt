use Rattle.std.proofs.Common.{◌<◌, ℕ, sym, ap, subst, ◌∙◌}
use Rattle.mono_store.specs.Words.{powers_of_word, word_count}
use Rattle.mono_store.proofs.Unfolding.{monomial_of-word}
use Rattle.mono_store.proofs.WordDigits.{powers_of_word-word, word-below_all}
use Rattle.mono_store.proofs.laws.words_are_indices.Goals as goal

pub returns : goal.returns
returns c = λ store id m h fits is.
    let within = subst (λ (w : ℕ). w < word_count store.limits) (sym is) (word-below_all store.limits m h.in_order fits) in (
      within,
      monomial_of-word store id within ∙ ap (powers_of_word store.limits) is ∙ powers_of_word-word store.limits m h.in_order fits,
    )
