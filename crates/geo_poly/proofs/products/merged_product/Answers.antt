use Rattle.std.proofs.Common.{map, ap, ◌∙◌}
use Rattle.std.proofs.lemmas.Result.{IfOk-weaker}
use Rattle.sparse_lists.specs.Coefficients.{Pairs}
use Rattle.poly_arena.specs.Chains.{pairs_of}
use Rattle.geo_poly.specs.Chained.{indexed_pair}
use Rattle.geo_poly.proofs.KeyedChains.{chain_indices, chain_terms}
use Rattle.geo_poly.proofs.products.merged_product.Goals as goal

pub returns-clause-indices : goal.returns-clause-indices
returns-clause-indices g c =
    let pairs = pairs_of c.product_chain.new.arena c.in_ok-chain.chain in
    let same = ap (λ (ps : Pairs). map indexed_pair ps) (c.deref.ensures.value ∙ c.in_ok-pairs.ensures) in
    IfOk-weaker c.indexed.result _ _
    (λ list h. chain_indices c.args.vars.now (g.K.MonomialKeys.keys c.product_chain.new.keys) list.items pairs (h ∙ same) c.in_ok-chain.ensures.chain.keys)
    c.indexed.ensures

pub returns-clause-product : goal.returns-clause-product
returns-clause-product g c =
    let pairs = pairs_of c.product_chain.new.arena c.in_ok-chain.chain in
    let same = ap (λ (ps : Pairs). map indexed_pair ps) (c.deref.ensures.value ∙ c.in_ok-pairs.ensures) in
    IfOk-weaker c.indexed.result _ _
    (λ list h. chain_terms c.args.vars.now (g.K.MonomialKeys.keys c.product_chain.new.keys) list.items pairs (h ∙ same) ∙ c.in_ok-chain.ensures.chain.terms)
    c.indexed.ensures
