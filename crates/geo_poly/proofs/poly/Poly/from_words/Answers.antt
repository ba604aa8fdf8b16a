use Rattle.std.proofs.Common.{◌≡◌, map, sym, ap, subst, ◌∙◌}
use Rattle.std.specs.Prelude.{IfOk}
use Rattle.sparse_lists.specs.Coefficients.{Pairs}
use Rattle.poly_arena.specs.Chains.{pairs_of}
use Rattle.geo_poly.specs.Chained.{indexed_pair}
use Rattle.geo_poly.specs.Inner.Words.{word_keys}
use Rattle.geo_poly.specs.Polynomials.{IsPolynomial, Summands}
use Rattle.geo_poly.proofs.KeyedChains.{chain_indices, chain_terms}
use Rattle.geo_poly.proofs.poly.Poly.from_words.Goals as goal

pub of_words-requires-clause-indices : goal.of_words-requires-clause-indices
of_words-requires-clause-indices c =
    let pairs = pairs_of c.args.arena c.args.chain in
    let same = c.in_ok-list.ensures ∙ ap (λ (ps : Pairs). map indexed_pair ps) (c.deref.ensures.value ∙ c.in_ok-pairs.ensures) in
    chain_indices c.args.vars (word_keys c.args.words) c.in_ok-list.list.items pairs same c.requires.keys

pub of_words-requires-clause-polynomial : goal.of_words-requires-clause-polynomial
of_words-requires-clause-polynomial c =
    let pairs = pairs_of c.args.arena c.args.chain in
    let same = c.in_ok-list.ensures ∙ ap (λ (ps : Pairs). map indexed_pair ps) (c.deref.ensures.value ∙ c.in_ok-pairs.ensures) in
    subst IsPolynomial (sym (chain_terms c.args.vars (word_keys c.args.words) c.in_ok-list.list.items pairs same)) c.requires.polynomial

pub returns : goal.returns
returns c =
    let pairs = pairs_of c.args.arena c.args.chain in
    let same = c.in_ok-list.ensures ∙ ap (λ (ps : Pairs). map indexed_pair ps) (c.deref.ensures.value ∙ c.in_ok-pairs.ensures) in
    subst (λ (q : Summands). IfOk c.of_words.result (λ p. p ≡ q)) (chain_terms c.args.vars (word_keys c.args.words) c.in_ok-list.list.items pairs same)
    c.of_words.ensures
