use Rattle.std.proofs.Common.{ℤ, [], ◌∷◌, FitsSigned, rules, ap₂}
use Rattle.std.specs.Int.{w128}
use Rattle.std.proofs.lemmas.Int.{to_z-of_z}
use Rattle.std.proofs.lemmas.Result.{IfOk-weaker}
use Rattle.geo_poly.specs.Monomials.{Powers}
use Rattle.geo_poly.proofs.ChainSteps.{StandsUnder-list}
use Rattle.geo_poly.proofs.nested.lone_chain.Goals as goal

pub returns-clause-chain : goal.returns-clause-chain
returns-clause-chain g c =
    let vars = c.args.setting.now.vars.now in
    let s = g.K.MonomialKeys.keys c.key_of_term.new.keys in
    let e = c.args.term.now in
    let fits : FitsSigned w128 c.args.term.now.coefficient = search rules in
    IfOk-weaker c.one_term_chain.result _ _
    (λ v h. StandsUnder-list vars s c.one_term_chain.new.arena v _ _ h (c.in_ok-rest.ensures.index, tt)
    (ap₂ (λ (m : Powers) (z : ℤ). (m, z) ∷ []) c.in_ok-rest.ensures.powers (to_z-of_z w128 e.coefficient fits)))
    c.one_term_chain.ensures.chain
