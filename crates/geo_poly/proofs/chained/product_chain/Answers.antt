use Rattle.std.proofs.Common.{subst}
use Rattle.std.proofs.lemmas.Result.{IfOk-weaker}
use Rattle.geo_poly.specs.Chained.{StandsUnder}
use Rattle.geo_poly.specs.Polynomials.{Summands}
use Rattle.geo_poly.specs.Inner.Keyed.{terms_under}
use Rattle.geo_poly.proofs.InReach.{AreInReach-flip}
use Rattle.geo_poly.proofs.ProductOrder.{product_of_comm}
use Rattle.geo_poly.proofs.chained.product_chain.Goals as goal

pub chain_by_halves-requires-else-left-right-clause-reach : goal.chain_by_halves-requires-else-left-right-clause-reach
chain_by_halves-requires-else-left-right-clause-reach g c =
    let vars = c.args.vars.now in
    let s = (g.K.MonomialKeys.keys c.args.keys.now) in
    AreInReach-flip vars s (terms_under vars s c.args.left.now) (terms_under vars s c.args.right.now) c.requires.reach

pub returns-else-left-right-clause-chain : goal.returns-else-left-right-clause-chain
returns-else-left-right-clause-chain g c =
    let vars = c.args.vars.now in
    let s = (g.K.MonomialKeys.keys c.args.keys.now) in
    IfOk-weaker c.chain_by_halves-else-left-right.result _ _
    (λ v h. subst (λ (p : Summands). StandsUnder vars (g.K.MonomialKeys.keys c.chain_by_halves-else-left-right.new.keys) c.chain_by_halves-else-left-right.new.arena
    v p) (product_of_comm (terms_under vars s c.args.right.now) (terms_under vars s c.args.left.now)) h)
    c.chain_by_halves-else-left-right.ensures.chain
