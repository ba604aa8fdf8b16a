use Rattle.std.proofs.Common.{◌≡◌, ℤ, ◌∙◌, ap, of_z, rules, subst, sym, to_z}
use Rattle.std.specs.Int.{w128}
use Rattle.std.proofs.lemmas.Int.{to_z-of_z}
use Rattle.std.proofs.lemmas.Result.{IfOk-weaker}
use Rattle.geo_poly.specs.Chained.{StandsUnder, keyed_terms_under}
use Rattle.geo_poly.specs.Polynomials.{CanMultiply, Summands, multiples, product_of}
use Rattle.geo_poly.specs.Inner.Keyed.{term_under, terms_under}
use Rattle.geo_poly.proofs.ProductLaws.{product_of_one}
use Rattle.geo_poly.proofs.chained_replacement.times_terms.Goals as goal

pub returns-in-Some-clause-chain : goal.returns-in-Some-clause-chain
returns-in-Some-clause-chain g c =
    let vars = c.args.vars.now in
    let s = g.K.MonomialKeys.keys c.args.keys.now in
    let q = terms_under vars s c.args.list.now in
    let one = ap (keyed_terms_under vars s) c.in-Some.ensures.some in
    let term = term_under vars s (record { 0 = c.in-Some.key }, c.in-Some.coefficient) in
    let product = product_of_one term q (subst (λ (x : Summands). CanMultiply x q) one c.requires.fits) ∙ ap (λ (x : Summands). product_of x q) (sym one) in
    let same : to_z w128 (of_z w128 c.in-Some.coefficient) ≡ c.in-Some.coefficient = to_z-of_z w128 c.in-Some.coefficient (search rules) in
    let all = ap (λ (k : ℤ). multiples (term_under vars s (record { 0 = c.in-Some.key }, k)) q) same ∙ product in
    IfOk-weaker c.multiples_chain.result _ _
    (λ v h. subst (λ (x : Summands). StandsUnder vars (g.K.MonomialKeys.keys c.multiples_chain.new.keys) c.multiples_chain.new.arena v x) all h)
    c.multiples_chain.ensures.chain
