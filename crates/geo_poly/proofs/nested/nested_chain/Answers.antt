use Rattle.std.proofs.Common.{ap, subst, ◌∙◌, arith}
use Rattle.std.proofs.lemmas.Result.{IfOk-weaker}
use Rattle.geo_poly.specs.Chained.{StandsUnder}
use Rattle.geo_poly.specs.Polynomials.{Summands, polynomial_of}
use Rattle.geo_poly.specs.Shared.{told}
use Rattle.geo_poly.proofs.Accumulated.{accumulated_is_replaced}
use Rattle.geo_poly.proofs.ChainSwaps.{IsSetUnder-kept}
use Rattle.geo_poly.proofs.InReach.{IsReplacedInReach-kept}
use Rattle.geo_poly.proofs.KeysKept.{KeepsKeys-trans}
use Rattle.geo_poly.proofs.WaitingTerms.{waiting}
use Rattle.geo_poly.proofs.nested.nested_chain.Goals as goal

pub nested_sum-requires-clause-set : goal.nested_sum-requires-clause-set
nested_sum-requires-clause-set g c =
    IsSetUnder-kept c.args.setting.now (g.K.MonomialKeys.keys c.args.keys.now) (g.K.MonomialKeys.keys c.keys_of_terms.new.keys) c.in_ok-table.ensures.kept c.requires.set

pub nested_sum-requires-clause-reach : goal.nested_sum-requires-clause-reach
nested_sum-requires-clause-reach g c =
    let setting = c.args.setting.now in
    IsReplacedInReach-kept setting.vars.now (g.K.MonomialKeys.keys c.args.keys.now)
    (g.K.MonomialKeys.keys c.keys_of_terms.new.keys) setting.rows.now setting.den.piece.now setting.top (told c.args.p.now)
    c.in_ok-table.ensures.kept.limits c.requires.reach

pub nested_sum-requires-clause-pending : goal.nested_sum-requires-clause-pending
nested_sum-requires-clause-pending g c =
    let setting = c.args.setting.now in
    let p = c.args.p.now in
    let found = waiting setting p (told p) _ c.in_ok-pending.pending.items _ c.in_ok-pending.ensures c.deref.ensures.value c.in_ok-listing.ensures.pending in
    found.pending

pub nested_sum-requires-clause-norm : goal.nested_sum-requires-clause-norm
nested_sum-requires-clause-norm g c =
    let setting = c.args.setting.now in
    let p = c.args.p.now in
    let found = waiting setting p (told p) _ c.in_ok-pending.pending.items _ c.in_ok-pending.ensures c.deref.ensures.value c.in_ok-listing.ensures.pending in
    omega (arith, found.weight, c.requires.can.weight_fits)

pub returns-clause-chain : goal.returns-clause-chain
returns-clause-chain g c =
    let setting = c.args.setting.now in
    let p = c.args.p.now in
    let found = waiting setting p (told p) _ c.in_ok-pending.pending.items _ c.in_ok-pending.ensures c.deref.ensures.value c.in_ok-listing.ensures.pending in
    let can = c.requires.can in
    let den = setting.den.piece.now.poly in
    let same = accumulated_is_replaced setting.rows.now den setting.top (told p) can.in_order can.monomials in
    let terms = found.terms ∙ ap polynomial_of same in
    IfOk-weaker c.nested_sum.result _ _
    (λ v h. subst (λ (q : Summands). StandsUnder setting.vars.now (g.K.MonomialKeys.keys c.nested_sum.new.keys) c.nested_sum.new.arena v q) terms h)
    c.nested_sum.ensures.chain

pub returns-clause-ticks : goal.returns-clause-ticks
returns-clause-ticks g c =
    let setting = c.args.setting.now in
    let p = c.args.p.now in
    let found = waiting setting p (told p) _ c.in_ok-pending.pending.items _ c.in_ok-pending.ensures c.deref.ensures.value c.in_ok-listing.ensures.pending in
    omega (arith, found.products, c.nested_sum.ensures.ticks)

pub returns-clause-kept : goal.returns-clause-kept
returns-clause-kept g c =
    KeepsKeys-trans (g.K.MonomialKeys.keys c.args.keys.now) (g.K.MonomialKeys.keys c.keys_of_terms.new.keys)
    (g.K.MonomialKeys.keys c.nested_sum.new.keys) c.in_ok-table.ensures.kept c.nested_sum.ensures.kept
