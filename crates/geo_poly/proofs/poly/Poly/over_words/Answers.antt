use Rattle.std.proofs.Common.{◌≡◌, sym, ap, subst, ◌∙◌}
use Rattle.std.specs.Prelude.{IfOk}
use Rattle.mono_store.specs.Stores.{Store}
use Rattle.geo_poly.specs.Polynomials.{IsPolynomial, Summands}
use Rattle.geo_poly.specs.Shared.{IsShared, terms_of}
use Rattle.geo_poly.proofs.WordStores.{word_indices, word_terms}
use Rattle.geo_poly.proofs.poly.Poly.over_words.Goals as goal

pub compact-requires : goal.compact-requires
compact-requires c =
    let vars = c.args.vars in
    let words = c.args.words in
    let list = c.args.list.items in
    subst (λ (store : Store). IsShared vars store list) (sym c.of_words-monos.ensures)
    (record {
      rising = c.requires.rising;
      indices = word_indices vars words list c.requires.indices;
      polynomial = subst IsPolynomial (sym (word_terms vars words list c.requires.indices)) c.requires.polynomial;
    })

pub returns : goal.returns
returns c =
    let vars = c.args.vars in
    let list = c.args.list.items in
    let stored = ap (λ (store : Store). terms_of vars store list) c.of_words-monos.ensures in
    subst (λ (q : Summands). IfOk c.compact.result (λ p. p ≡ q)) (stored ∙ word_terms vars c.args.words list c.requires.indices) c.compact.ensures
