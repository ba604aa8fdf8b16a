use Rattle.std.proofs.Common.{◌≡◌, ℕ, ◌+◌, ◌-◌, ◌<◌, List, Option, None, [], drop, length, map, refl, sym, ap, subst, ◌∙◌, FitsSigned, rules, arith}
use Rattle.std.specs.Int.{w128}
use Rattle.std.specs.Prelude.{slice_index_or, unwrap_or}
use Rattle.std.proofs.lemmas.Int.{to_z-of_z}
use Rattle.sparse_lists.specs.SparseLists.{IsCanonical}
use Rattle.sparse_lists.proofs.Merging.{drop_past}
use Rattle.sparse_lists.specs.Coefficients.{coefficients, Pairs}
use Rattle.poly_arena.specs.Chains.{pairs_of}
use Rattle.geo_poly.specs.Chained.{AddsChain, StandsUnder}
use Rattle.geo_poly.specs.declared.pending.Pending.{Pending}
use Rattle.geo_poly.specs.Inner.Factored.{factored_terms, told_pending}
use Rattle.geo_poly.specs.Inner.Runs.{IsNextKey, first_key}
use Rattle.geo_poly.specs.Polynomials.{Summands, term_cmp}
use Rattle.geo_poly.specs.Shared.{told}
use Rattle.geo_poly.proofs.AddedKeys.{AreTermKeys-kept}
use Rattle.geo_poly.proofs.ChainSteps.{AddsChain-updates, StandsUnder-list, gave_back}
use Rattle.geo_poly.proofs.ChainSwaps.{IsSetUnder-kept}
use Rattle.geo_poly.proofs.InReach.{IsReplacedInReach-kept}
use Rattle.geo_poly.proofs.KeysKept.{KeepsKeys-refl, KeepsKeys-trans}
use Rattle.geo_poly.proofs.OrderedRuns.{first_pushed, first_within, run_keys, run_order, run_terms, run_whole}
use Rattle.geo_poly.proofs.PendingItems.{past_pending, pending_at, pending_at-is}
use Rattle.geo_poly.proofs.runs.run_chain.Goals as goal

pub loop-i-init : goal.loop-i-init
loop-i-init g c =
    let setting = c.args.setting.now in
    let keys = g.K.MonomialKeys.keys c.args.keys.now in
    let es = c.args.pending.now in
    let arena = c.chain.new.self in
    let chain = c.in_ok-chain.chain in
    let none : drop (length c.args.pending.now) c.args.pending.now ≡ [] = drop_past es (length es) (omega arith) in
    let made = λ (xs : List Pending). factored_terms (map (told_pending setting c.args.p.now c.args.depth) xs) in
    record {
      left = omega arith;
      room = omega (arith, c.in_ok-chain.ensures.spare, c.in_ok-reserve.ensures.ok);
      kept = KeepsKeys-refl keys;
      adds = record {
        unused = ap (λ (ls : List (Option Pairs)). slice_index_or ls chain None) (sym c.in_ok-reserve.ensures.lists) ∙ c.in_ok-chain.ensures.new;
        others = λ n d. c.in_ok-chain.ensures.updates.others n d ∙ ap (λ (ls : List (Option Pairs)). slice_index_or ls n None) c.in_ok-reserve.ensures.lists;
      };
      first = sym (ap (λ (o : Option Pairs). first_key (unwrap_or o [])) c.in_ok-chain.ensures.updates.changed);
      order = subst (λ (xs : List Pending). IsCanonical term_cmp coefficients (made xs)) (sym none) tt;
      chain = subst (λ (xs : List Pending). StandsUnder setting.vars.now keys arena chain (made xs)) (sym none)
          (StandsUnder-list setting.vars.now keys arena chain [] [] c.in_ok-chain.ensures.updates.changed tt refl);
    }

pub next_key-requires-clause-set : goal.next_key-requires-clause-set
next_key-requires-clause-set g c =
    IsSetUnder-kept c.args.setting.now (g.K.MonomialKeys.keys c.args.keys.now) (g.K.MonomialKeys.keys c.loop-i.keys) c.loop-i.invariant.kept c.requires.set

pub next_key-requires-clause-table : goal.next_key-requires-clause-table
next_key-requires-clause-table g c =
    let setting = c.args.setting.now in
    AreTermKeys-kept setting c.args.p.now (g.K.MonomialKeys.keys c.args.keys.now)
    (g.K.MonomialKeys.keys c.loop-i.keys) c.loop-i.invariant.kept c.args.table.now c.requires.table

pub next_key-requires-clause-reach : goal.next_key-requires-clause-reach
next_key-requires-clause-reach g c =
    let setting = c.args.setting.now in
    IsReplacedInReach-kept setting.vars.now (g.K.MonomialKeys.keys c.args.keys.now)
    (g.K.MonomialKeys.keys c.loop-i.keys) setting.rows.now setting.den.piece.now setting.top (told c.args.p.now)
    c.loop-i.invariant.kept.limits c.requires.reach

pub next_key-requires-clause-first : goal.next_key-requires-clause-first
next_key-requires-clause-first g c =
    first_within c.args.setting.now.vars.now (g.K.MonomialKeys.keys c.loop-i.keys) c.loop-i.first (pairs_of c.loop-i.arena c.loop-i.chain)
    c.loop-i.invariant.first c.loop-i.invariant.chain.keys

pub push_front-requires-clause-live : goal.push_front-requires-clause-live
push_front-requires-clause-live g c = c.loop-i.invariant.chain.live

pub give_back-requires : goal.give_back-requires
give_back-requires g c = record { live = c.loop-i.invariant.chain.live }

pub loop-i-preserved : goal.loop-i-preserved
loop-i-preserved g c =
    let setting = c.args.setting.now in
    let vars = setting.vars.now in
    let p = c.args.p.now in
    let depth = c.args.depth in
    let es = c.args.pending.now in
    let i = c.loop-i.i - 1 in
    let e = pending_at es i in
    let s0 = g.K.MonomialKeys.keys c.args.keys.now in
    let s = g.K.MonomialKeys.keys c.loop-i.keys in
    let new = g.K.MonomialKeys.keys c.next_key.new.keys in
    let chain = c.loop-i.chain in
    let ps = pairs_of c.loop-i.arena c.loop-i.chain in
    let arena = c.push_front.new.self in
    let key = c.in-Some.key in
    let kept = c.in-Some.ensures.kept in
    let below : c.loop-i.i - 1 < length c.args.pending.now = omega (arith, c.loop-i.invariant.left, c.loop-i-test.true) in
    let at = pending_at-is es i below in
    let rest : c.loop-i.i ≡ c.loop-i.i - 1 + 1 = omega (arith, c.loop-i-test.true) in
    let pending = c.requires.pending i past_pending below in
    let next = subst (λ (o : Option ℕ). IsNextKey setting p depth new o e key) c.loop-i.invariant.first c.in-Some.ensures.next in
    let fits : FitsSigned w128 e.coefficient = search rules in
    record {
      left = omega (arith, c.loop-i.invariant.left);
      room = omega (arith, c.push_front.ensures.spare, c.loop-i.invariant.room);
      kept = KeepsKeys-trans s0 s new c.loop-i.invariant.kept kept;
      adds = subst (AddsChain c.args.arena.now arena) (sym c.push_front.ensures.chain)
          (AddsChain-updates c.args.arena.now c.loop-i.arena arena chain _ c.loop-i.invariant.adds c.push_front.ensures.updates);
      first = first_pushed arena c.push_front.new.chain chain key _ ps c.push_front.ensures.chain c.push_front.ensures.updates.changed;
      order = run_order setting p depth es i e below at s new kept ps key next c.loop-i.i rest
          c.loop-i.invariant.chain.keys c.loop-i.invariant.chain.terms c.requires.set.rising pending c.loop-i.invariant.order;
      chain =
          subst (λ (n : ℕ). StandsUnder vars new arena n (factored_terms (map (told_pending setting p depth) (drop i es)))) (sym c.push_front.ensures.chain)
          (StandsUnder-list vars new arena chain _ _ c.push_front.ensures.updates.changed
          (run_keys setting p depth es i e below at s new kept ps key next c.loop-i.i rest
          c.loop-i.invariant.chain.keys c.loop-i.invariant.chain.terms e.coefficient)
          (run_terms setting p depth es i e below at s new kept ps key next c.loop-i.i rest
          c.loop-i.invariant.chain.keys c.loop-i.invariant.chain.terms _ (to_z-of_z w128 e.coefficient fits)));
    }

pub returns-in-None-clause-none : goal.returns-in-None-clause-none
returns-in-None-clause-none g c =
    gave_back c.args.arena.now c.loop-i.arena c.give_back.new.self c.loop-i.chain c.loop-i.invariant.adds c.give_back.ensures.updates

pub returns-in-None-clause-kept : goal.returns-in-None-clause-kept
returns-in-None-clause-kept g c =
    KeepsKeys-trans (g.K.MonomialKeys.keys c.args.keys.now) (g.K.MonomialKeys.keys c.loop-i.keys)
    (g.K.MonomialKeys.keys c.next_key.new.keys) c.loop-i.invariant.kept c.in-None.ensures.kept

pub returns-clause-chain : goal.returns-clause-chain
returns-clause-chain g c =
    let setting = c.args.setting.now in
    let zero : c.loop-i.i ≡ 0 = omega (arith, c.loop-i-test.false) in
    subst (λ (q : Summands). StandsUnder setting.vars.now (g.K.MonomialKeys.keys c.loop-i.keys) c.loop-i.arena c.loop-i.chain q)
    (run_whole setting c.args.p.now c.args.depth c.args.pending.now c.loop-i.i zero c.loop-i.invariant.order) c.loop-i.invariant.chain
