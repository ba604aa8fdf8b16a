use Rattle.std.proofs.Common.{ℕ, ◌+◌, ◌*◌, ◌≤◌, length, sym, ap, subst, ◌∙◌, rules}
use Rattle.std.proofs.lemmas.List.{length-map}
use Rattle.std.proofs.lemmas.Result.{IfOk-weaker, on_err_weaker}
use Rattle.poly_arena.specs.Chains.{pairs_of}
use Rattle.geo_poly.specs.Chained.{StandsUnder, indexed_pair}
use Rattle.geo_poly.specs.Polynomials.{CanMultiply, Summands, product_of}
use Rattle.geo_poly.specs.Inner.Keyed.{AreInReach, terms_under}
use Rattle.geo_poly.proofs.ChainSwaps.{Swaps-from, spent_same}
use Rattle.geo_poly.proofs.KeyedChains.{chain_indices, chain_terms}
use Rattle.geo_poly.proofs.chained_replacement.times_list_by_halves.Goals as goal

pub product_chain-requires-clause-left : goal.product_chain-requires-clause-left
product_chain-requires-clause-left g c =
    let pairs = pairs_of c.args.arena.now c.args.chain in
    let same = c.deref.ensures.value ∙ c.in_ok-left.ensures indexed_pair (λ key coef x gave. search rules) in
    chain_indices c.args.vars.now (g.K.MonomialKeys.keys c.args.keys.now) c.deref.result.now pairs same c.requires.keys

pub product_chain-requires-clause-fits : goal.product_chain-requires-clause-fits
product_chain-requires-clause-fits g c =
    let pairs = pairs_of c.args.arena.now c.args.chain in
    let same = c.deref.ensures.value ∙ c.in_ok-left.ensures indexed_pair (λ key coef x gave. search rules) in
    subst (λ (p : Summands). CanMultiply p (terms_under c.args.vars.now (g.K.MonomialKeys.keys c.args.keys.now) c.args.list.now))
    (sym (chain_terms c.args.vars.now (g.K.MonomialKeys.keys c.args.keys.now) c.deref.result.now pairs same)) c.requires.fits

pub product_chain-requires-clause-reach : goal.product_chain-requires-clause-reach
product_chain-requires-clause-reach g c =
    let keys = g.K.MonomialKeys.keys c.args.keys.now in
    let pairs = pairs_of c.args.arena.now c.args.chain in
    let same = c.deref.ensures.value ∙ c.in_ok-left.ensures indexed_pair (λ key coef x gave. search rules) in
    subst (λ (p : Summands). AreInReach c.args.vars.now keys p (terms_under c.args.vars.now keys c.args.list.now))
    (sym (chain_terms c.args.vars.now keys c.deref.result.now pairs same)) c.requires.reach

pub returns-clause-chain : goal.returns-clause-chain
returns-clause-chain g c =
    let vars = c.args.vars.now in
    let s = (g.K.MonomialKeys.keys c.args.keys.now) in
    let pairs = pairs_of c.args.arena.now c.args.chain in
    let same = c.deref.ensures.value ∙ c.in_ok-left.ensures indexed_pair (λ key coef x gave. search rules) in
    IfOk-weaker c.product_chain.result _ _
    (λ v h. subst (λ (p : Summands). StandsUnder vars (g.K.MonomialKeys.keys c.product_chain.new.keys) c.product_chain.new.arena v (product_of p (terms_under vars s c.args.list.now)))
    (chain_terms vars s c.deref.result.now pairs same) h)
    c.product_chain.ensures.chain

pub returns-clause-swaps : goal.returns-clause-swaps
returns-clause-swaps g c =
    IfOk-weaker c.product_chain.result _ _
    (λ v h. Swaps-from c.args.arena.now c.give_back.new.self c.product_chain.new.arena c.args.chain v c.give_back.ensures.updates h)
    c.product_chain.ensures.adds

pub returns-clause-err : goal.returns-clause-err
returns-clause-err g c =
    on_err_weaker c.product_chain.result
    (spent_same c.args.arena.now c.give_back.new.self c.product_chain.new.arena c.args.chain c.give_back.ensures.updates)
    c.product_chain.ensures.err

pub returns-clause-ticks : goal.returns-clause-ticks
returns-clause-ticks g c =
    let pairs = pairs_of c.args.arena.now c.args.chain in
    let same = c.deref.ensures.value ∙ c.in_ok-left.ensures indexed_pair (λ key coef x gave. search rules) in
    subst (λ (n : ℕ). c.product_chain.new.ticks ≤ c.args.ticks.now + n * length c.args.list.now)
    (ap length same ∙ length-map pairs indexed_pair) c.product_chain.ensures.ticks
