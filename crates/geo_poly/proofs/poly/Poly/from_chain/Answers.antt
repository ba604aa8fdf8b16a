use Rattle.std.proofs.Common.{◌≡◌, map, sym, ap, subst, ◌∙◌}
use Rattle.std.specs.Prelude.{IfOk}
use Rattle.sparse_lists.specs.Coefficients.{Pairs}
use Rattle.poly_arena.specs.Chains.{pairs_of}
use Rattle.geo_poly.specs.Chained.{indexed_pair}
use Rattle.geo_poly.specs.Polynomials.{IsPolynomial, Summands}
use Rattle.geo_poly.specs.Keys.{store_keys}
use Rattle.geo_poly.proofs.KeyedChains.{chain_indices, chain_terms}
use Rattle.geo_poly.proofs.poly.Poly.from_chain.Goals as goal

pub compact-requires : goal.compact-requires
compact-requires c =
    let pairs = pairs_of c.args.arena c.args.chain in
    let same = c.in_ok-list.ensures ∙ ap (λ (ps : Pairs). map indexed_pair ps) (c.deref.ensures.value ∙ c.in_ok-pairs.ensures) in
    record {
      rising = c.requires.rising;
      indices = chain_indices c.args.vars (store_keys c.args.monos) c.in_ok-list.list.items pairs same c.requires.keys;
      polynomial = subst IsPolynomial (sym (chain_terms c.args.vars (store_keys c.args.monos) c.in_ok-list.list.items pairs same)) c.requires.polynomial;
    }

pub returns : goal.returns
returns c =
    let pairs = pairs_of c.args.arena c.args.chain in
    let same = c.in_ok-list.ensures ∙ ap (λ (ps : Pairs). map indexed_pair ps) (c.deref.ensures.value ∙ c.in_ok-pairs.ensures) in
    subst (λ (q : Summands). IfOk c.compact.result (λ p. p ≡ q)) (chain_terms c.args.vars (store_keys c.args.monos) c.in_ok-list.list.items pairs same)
    c.compact.ensures
