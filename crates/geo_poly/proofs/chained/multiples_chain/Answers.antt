use Rattle.std.proofs.Common.{◌≡◌, ℕ, ◌+◌, ◌-◌, ◌<◌, drop, length, sym, subst, FitsSigned, rules, arith}
use Rattle.std.specs.Int.{w128}
use Rattle.poly_arena.specs.Chains.{pairs_of}
use Rattle.geo_poly.specs.Chained.{AddsChain, StandsUnder}
use Rattle.geo_poly.specs.Inner.Keyed.{term_under, terms_under}
use Rattle.geo_poly.specs.Polynomials.{multiples}
use Rattle.geo_poly.proofs.ChainMultiples.{degrees_fit, next_keys, next_terms, product_fits, reaches, u_now}
use Rattle.geo_poly.proofs.ChainSteps.{AddsChain-updates, StandsUnder-list}
use Rattle.geo_poly.proofs.KeysKept.{KeepsKeys-trans}
use Rattle.geo_poly.proofs.ProductLaws.{coded_product_is, product_is_kept}
use Rattle.geo_poly.proofs.Told.{item}
use Rattle.geo_poly.proofs.chained.multiples_chain.Goals as goal

pub times-requires-clause-right : goal.times-requires-clause-right
times-requires-clause-right g c =
    let below : c.loop-i.i - 1 < length c.args.list.now = omega (arith, c.loop-i.invariant.left, c.loop-i-test.true) in
    (u_now c.args.vars.now (g.K.MonomialKeys.keys c.args.keys.now) c.args.t c.args.list.now
    (c.loop-i.i - 1) below c.requires.term c.requires.indices c.requires.fits c.requires.rising (g.K.MonomialKeys.keys c.loop-i.keys)
    c.loop-i.invariant.kept).within

pub times-requires-clause-degree : goal.times-requires-clause-degree
times-requires-clause-degree g c =
    let below : c.loop-i.i - 1 < length c.args.list.now = omega (arith, c.loop-i.invariant.left, c.loop-i-test.true) in
    degrees_fit c.args.vars.now (g.K.MonomialKeys.keys c.args.keys.now) c.args.t c.args.list.now
    (c.loop-i.i - 1) below c.requires.term c.requires.indices c.requires.fits c.requires.rising (g.K.MonomialKeys.keys c.loop-i.keys) c.loop-i.invariant.kept

pub times-requires-clause-reach : goal.times-requires-clause-reach
times-requires-clause-reach g c =
    let below : c.loop-i.i - 1 < length c.args.list.now = omega (arith, c.loop-i.invariant.left, c.loop-i-test.true) in
    reaches c.args.vars.now (g.K.MonomialKeys.keys c.args.keys.now) c.args.t c.args.list.now
    (c.loop-i.i - 1) below c.requires.term c.requires.indices c.requires.fits c.requires.rising (g.K.MonomialKeys.keys c.loop-i.keys)
    c.loop-i.invariant.kept c.requires.reach

pub overflow_mul-t : goal.overflow_mul-t
overflow_mul-t g c =
    let below : c.loop-i.i - 1 < length c.args.list.now = omega (arith, c.loop-i.invariant.left, c.loop-i-test.true) in
    let left : FitsSigned w128 c.args.t.1 = search rules in
    let right : FitsSigned w128 (item c.args.list.now (c.loop-i.i - 1)).1 = search rules in
    subst (FitsSigned w128) (sym (coded_product_is c.args.t.1 (item c.args.list.now (c.loop-i.i - 1)).1 left right))
    (product_fits c.args.vars.now (g.K.MonomialKeys.keys c.args.keys.now) c.args.t c.args.list.now (c.loop-i.i - 1) below c.requires.term c.requires.indices c.requires.fits)

pub loop-i-preserved : goal.loop-i-preserved
loop-i-preserved g c =
    let vars = c.args.vars.now in
    let s0 = (g.K.MonomialKeys.keys c.args.keys.now) in
    let s = (g.K.MonomialKeys.keys c.loop-i.keys) in
    let new = (g.K.MonomialKeys.keys c.times.new.self) in
    let list = c.args.list.now in
    let i = c.loop-i.i - 1 in
    let chain = c.loop-i.chain in
    let ps = pairs_of c.loop-i.arena c.loop-i.chain in
    let below : c.loop-i.i - 1 < length c.args.list.now = omega (arith, c.loop-i.invariant.left, c.loop-i-test.true) in
    let rest : c.loop-i.i ≡ c.loop-i.i - 1 + 1 = omega (arith, c.loop-i-test.true) in
    let left : FitsSigned w128 c.args.t.1 = search rules in
    let right : FitsSigned w128 (item c.args.list.now (c.loop-i.i - 1)).1 = search rules in
    let fits = product_fits vars s0 c.args.t list i below c.requires.term c.requires.indices c.requires.fits in
    let coef = product_is_kept c.args.t.1 (item list i).1 left right fits in
    let kept = c.loop-i.invariant.kept in
    let kept2 = c.in-Ok.ensures.kept in
    record {
      left = omega (arith, c.loop-i.invariant.left);
      room = omega (arith, c.push_front.ensures.spare, c.loop-i.invariant.room);
      kept = KeepsKeys-trans s0 s new kept kept2;
      ticks = omega (arith, c.tick.ensures, c.loop-i.invariant.ticks, c.loop-i-test.true);
      adds = subst (AddsChain c.args.arena.now c.push_front.new.self) (sym c.push_front.ensures.chain)
          (AddsChain-updates c.args.arena.now c.loop-i.arena c.push_front.new.self chain _ c.loop-i.invariant.adds c.push_front.ensures.updates);
      chain =
          subst (λ (n : ℕ). StandsUnder vars new c.push_front.new.self n (multiples (term_under vars s0 c.args.t) (drop i (terms_under vars s0 list)))) (sym c.push_front.ensures.chain)
          (StandsUnder-list vars new c.push_front.new.self chain _ _ c.push_front.ensures.updates.changed
          (next_keys vars s0 c.args.t list i below c.requires.term c.requires.indices c.requires.fits c.requires.rising s kept new kept2
          c.in-Ok.product c.in-Ok.ensures.within c.in-Ok.ensures.product _ coef ps c.loop-i.i rest c.loop-i.invariant.chain.keys
          c.loop-i.invariant.chain.terms)
          (next_terms vars s0 c.args.t list i below c.requires.term c.requires.indices c.requires.fits c.requires.rising s kept new kept2
          c.in-Ok.product c.in-Ok.ensures.within c.in-Ok.ensures.product _ coef ps c.loop-i.i rest c.loop-i.invariant.chain.keys
          c.loop-i.invariant.chain.terms));
    }
