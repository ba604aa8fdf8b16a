use Rattle.std.proofs.Common.{◌≡◌, ℕ, ◌+◌, ◌<◌, ℤ, Option, List, [], ◌∷◌, ap, length, length-drop, map, refl, sym, subst, take, arith}
use Rattle.std.specs.Prelude.{All, IfNone, IfSome}
use Rattle.std.proofs.lemmas.List.{length-map, length-take-le}
use Rattle.std.proofs.lemmas.List.Elements.{All-drop, All-take}
use Rattle.std.proofs.lemmas.Result.{IfOk-weaker, on_err_weaker}
use Rattle.poly_arena.specs.Chains.{pairs_of}
use Rattle.geo_poly.specs.Chained.{AddsChain, SameChains, StandsUnder, keyed_term_under, keyed_terms_under}
use Rattle.geo_poly.specs.declared.pending.Pending.{Pending}
use Rattle.geo_poly.specs.Inner.Factored.{factored_terms, IsPending, told_pending}
use Rattle.geo_poly.specs.Monomials.{Powers}
use Rattle.geo_poly.specs.Polynomials.{Summands, polynomial_of}
use Rattle.geo_poly.proofs.AddedKeys.{AreTermKeys-kept}
use Rattle.geo_poly.proofs.ChainSteps.{gave_back}
use Rattle.geo_poly.proofs.ChainSums.{first_order, first_still, norms_fit, second_order}
use Rattle.geo_poly.proofs.ChainSwaps.{AddsChain-swaps, IsSetUnder-kept}
use Rattle.geo_poly.proofs.KeysKept.{KeepsKeys-trans}
use Rattle.geo_poly.proofs.InReach.{IsReplacedInReach-kept}
use Rattle.geo_poly.specs.Shared.{told}
use Rattle.geo_poly.proofs.JoinedParts.{AddsChain-same, SameChains-trans, alone}
use Rattle.geo_poly.proofs.JoinedParts.{joined_adds, joined_degree, joined_made, joined_monomials, joined_norm, joined_order, joined_products, joined_reach, joined_stands}
use Rattle.geo_poly.proofs.JoinedParts.{lone_degree, lone_made, lone_monomials, lone_norm, lone_order, lone_pending, lone_products, lone_reach, lone_room}
use Rattle.geo_poly.proofs.NestedSums.{all_deeper, back_norm, deeper_norm, front_norm, parts_fit, parts_products, parts_sum}
use Rattle.geo_poly.proofs.ReplaceTerms.{IsCanonical-polynomial_of}
use Rattle.geo_poly.proofs.PendingItems.{pending_at, pending_at-is}
use Rattle.geo_poly.proofs.nested.+nested_sum.Goals as goal

-- THE TWO PARTS
pub parts_sum-nested_sum-requires : goal.parts_sum-nested_sum-requires
parts_sum-nested_sum-requires g t c =
    let setting = c.args.setting.now in
    let p = c.args.p.now in
    let es = c.args.pending.now in
    let at = c.split_place.result in
    let front = c.split_at.result.0.now in
    let back = c.split_at.result.1.now in
    let fewer : length front < length es =
    omega (arith, ap length c.split_at.ensures.front, length-take-le at es (omega (arith, c.split_place.ensures.within)), c.split_place.ensures.within) in
    λ κs below. (
      omega (arith, fewer),
      (
        below.0,
        (
          below.1,
          (
            c.requires.set,
            (
              c.requires.table,
              (
                subst (λ (xs : List Pending). All (IsPending setting p c.args.depth) xs) (sym c.split_at.ensures.front)
                    (All-take (IsPending setting p c.args.depth) at es c.requires.pending),
                (
                  front_norm setting (g.K.MonomialKeys.keys c.args.keys.now) c.requires.set p c.args.depth es at front back c.split_at.ensures.front c.split_at.ensures.back
                      c.requires.norm,
                  c.requires.reach,
                ),
              ),
            ),
          ),
        ),
      ),
    )

pub parts_sum-nested_sum-requires-2 : goal.parts_sum-nested_sum-requires-2
parts_sum-nested_sum-requires-2 g t c =
    let setting = c.args.setting.now in
    let p = c.args.p.now in
    let es = c.args.pending.now in
    let at = c.split_place.result in
    let front = c.split_at.result.0.now in
    let back = c.split_at.result.1.now in
    let keys = g.K.MonomialKeys.keys c.args.keys.now in
    let later = g.K.MonomialKeys.keys c.nested_sum.new.keys in
    let kept = c.in_ok-sum.ensures.kept in
    let fewer : length back < length es =
    omega (arith, ap length c.split_at.ensures.back, length-drop at es, c.split_place.ensures.some, c.split_place.ensures.within) in
    λ κs below. (
      omega (arith, fewer),
      (
        below.0,
        (
          below.1,
          (
            IsSetUnder-kept setting keys later kept c.requires.set,
            (
              AreTermKeys-kept setting p keys later kept c.args.table.now c.requires.table,
              (
                subst (λ (xs : List Pending). All (IsPending setting p c.args.depth) xs) (sym c.split_at.ensures.back)
                    (All-drop (IsPending setting p c.args.depth) at es c.requires.pending),
                (
                  back_norm setting keys c.requires.set p c.args.depth es at front back c.split_at.ensures.front c.split_at.ensures.back
                      c.requires.norm,
                  IsReplacedInReach-kept setting.vars.now keys later setting.rows.now setting.den.piece.now setting.top (told p) kept.limits c.requires.reach,
                ),
              ),
            ),
          ),
        ),
      ),
    )

pub parts_sum-summed-requires-clause-left_keys : goal.parts_sum-summed-requires-clause-left_keys
parts_sum-summed-requires-clause-left_keys g t c =
    let s1 = g.K.MonomialKeys.keys c.nested_sum.new.keys in
    let s2 = g.K.MonomialKeys.keys c.nested_sum-2.new.keys in
    let setting = c.args.setting.now in
    (first_still setting.vars.now s1 s2 c.in-Ok.ensures.kept
    c.nested_sum.new.arena c.nested_sum-2.new.arena
    c.in_ok-sum.sum c.in-Ok.rest _ _ c.in_ok-sum.ensures.chain c.in-Ok.ensures.adds c.in-Ok.ensures.chain).keys

pub parts_sum-summed-requires-clause-left_order : goal.parts_sum-summed-requires-clause-left_order
parts_sum-summed-requires-clause-left_order g t c =
    let s1 = g.K.MonomialKeys.keys c.nested_sum.new.keys in
    let s2 = g.K.MonomialKeys.keys c.nested_sum-2.new.keys in
    let setting = c.args.setting.now in
    let p = c.args.p.now in
    let es = c.args.pending.now in
    let at = c.split_place.result in
    let front = c.split_at.result.0.now in
    first_order setting.vars.now s1 s2 c.in-Ok.ensures.kept
    c.nested_sum.new.arena c.nested_sum-2.new.arena
    c.in_ok-sum.sum c.in-Ok.rest _ _ c.in_ok-sum.ensures.chain c.in-Ok.ensures.adds c.in-Ok.ensures.chain
    (IsCanonical-polynomial_of (factored_terms (map (told_pending setting p c.args.depth) front)))

pub parts_sum-summed-requires-clause-right_order : goal.parts_sum-summed-requires-clause-right_order
parts_sum-summed-requires-clause-right_order g t c =
    let s1 = g.K.MonomialKeys.keys c.nested_sum.new.keys in
    let s2 = g.K.MonomialKeys.keys c.nested_sum-2.new.keys in
    let setting = c.args.setting.now in
    let back = c.split_at.result.1.now in
    second_order setting.vars.now s1 s2 c.in-Ok.ensures.kept
    c.nested_sum.new.arena c.nested_sum-2.new.arena
    c.in_ok-sum.sum c.in-Ok.rest _ _ c.in_ok-sum.ensures.chain c.in-Ok.ensures.adds c.in-Ok.ensures.chain
    (IsCanonical-polynomial_of (factored_terms (map (told_pending setting c.args.p.now c.args.depth) back)))

pub parts_sum-summed-requires-clause-fits : goal.parts_sum-summed-requires-clause-fits
parts_sum-summed-requires-clause-fits g t c =
    let s1 = g.K.MonomialKeys.keys c.nested_sum.new.keys in
    let s2 = g.K.MonomialKeys.keys c.nested_sum-2.new.keys in
    let setting = c.args.setting.now in
    let p = c.args.p.now in
    let es = c.args.pending.now in
    let at = c.split_place.result in
    let front = c.split_at.result.0.now in
    let back = c.split_at.result.1.now in
    norms_fit setting.vars.now s1 s2 c.in-Ok.ensures.kept
    c.nested_sum.new.arena c.nested_sum-2.new.arena
    c.in_ok-sum.sum c.in-Ok.rest _ _ c.in_ok-sum.ensures.chain c.in-Ok.ensures.adds c.in-Ok.ensures.chain
    (parts_fit setting (g.K.MonomialKeys.keys c.args.keys.now) c.requires.set p c.args.depth es at front back c.split_at.ensures.front c.split_at.ensures.back c.requires.norm)

pub parts_sum-returns-in-Ok-clause-chain : goal.parts_sum-returns-in-Ok-clause-chain
parts_sum-returns-in-Ok-clause-chain g t c =
    let s1 = g.K.MonomialKeys.keys c.nested_sum.new.keys in
    let s2 = g.K.MonomialKeys.keys c.nested_sum-2.new.keys in
    let setting = c.args.setting.now in
    let p = c.args.p.now in
    let es = c.args.pending.now in
    let at = c.split_place.result in
    let front = c.split_at.result.0.now in
    let back = c.split_at.result.1.now in
    joined_stands setting.vars.now s1 s2 c.in-Ok.ensures.kept
    c.args.arena.now c.nested_sum.new.arena c.nested_sum-2.new.arena c.summed.new.arena
    c.in_ok-sum.sum c.in-Ok.rest c.summed.result _ _ (polynomial_of (factored_terms (map (told_pending setting p c.args.depth) es)))
    c.in_ok-sum.ensures.adds c.in-Ok.ensures.adds c.in_ok-sum.ensures.chain c.in-Ok.ensures.chain c.summed.ensures.chain c.summed.ensures.sum
    (parts_sum setting (g.K.MonomialKeys.keys c.args.keys.now) c.requires.set p c.args.depth es at front back c.split_at.ensures.front c.split_at.ensures.back)

pub parts_sum-returns-in-Ok-clause-adds : goal.parts_sum-returns-in-Ok-clause-adds
parts_sum-returns-in-Ok-clause-adds g t c =
    let s1 = g.K.MonomialKeys.keys c.nested_sum.new.keys in
    let s2 = g.K.MonomialKeys.keys c.nested_sum-2.new.keys in
    let setting = c.args.setting.now in
    let p = c.args.p.now in
    let es = c.args.pending.now in
    joined_adds setting.vars.now s1 s2 c.in-Ok.ensures.kept
    c.args.arena.now c.nested_sum.new.arena c.nested_sum-2.new.arena c.summed.new.arena
    c.in_ok-sum.sum c.in-Ok.rest c.summed.result _ _ (polynomial_of (factored_terms (map (told_pending setting p c.args.depth) es)))
    c.in_ok-sum.ensures.adds c.in-Ok.ensures.adds c.in_ok-sum.ensures.chain c.in-Ok.ensures.chain c.summed.ensures.chain _ c.summed.ensures.merges

pub parts_sum-returns-in-Ok-clause-kept : goal.parts_sum-returns-in-Ok-clause-kept
parts_sum-returns-in-Ok-clause-kept g t c =
    let s1 = g.K.MonomialKeys.keys c.nested_sum.new.keys in
    let s2 = g.K.MonomialKeys.keys c.nested_sum-2.new.keys in
    KeepsKeys-trans (g.K.MonomialKeys.keys c.args.keys.now) s1
    s2 c.in_ok-sum.ensures.kept c.in-Ok.ensures.kept

pub parts_sum-returns-in-Ok-clause-ticks : goal.parts_sum-returns-in-Ok-clause-ticks
parts_sum-returns-in-Ok-clause-ticks g t c =
    let setting = c.args.setting.now in
    let p = c.args.p.now in
    let es = c.args.pending.now in
    let at = c.split_place.result in
    let front = c.split_at.result.0.now in
    let back = c.split_at.result.1.now in
    let both = parts_products setting (g.K.MonomialKeys.keys c.args.keys.now) c.requires.set p c.args.depth es at front back c.split_at.ensures.front c.split_at.ensures.back in
    omega (arith, c.in_ok-sum.ensures.ticks, c.in-Ok.ensures.ticks, both)

pub parts_sum-returns-in-Err-clause-ticks : goal.parts_sum-returns-in-Err-clause-ticks
parts_sum-returns-in-Err-clause-ticks g t c =
    let setting = c.args.setting.now in
    let p = c.args.p.now in
    let es = c.args.pending.now in
    let at = c.split_place.result in
    let front = c.split_at.result.0.now in
    let back = c.split_at.result.1.now in
    let both = parts_products setting (g.K.MonomialKeys.keys c.args.keys.now) c.requires.set p c.args.depth es at front back c.split_at.ensures.front c.split_at.ensures.back in
    omega (arith, c.in_ok-sum.ensures.ticks, c.in-Err.ensures.ticks, both)

pub parts_sum-returns-in_err-sum-clause-ticks : goal.parts_sum-returns-in_err-sum-clause-ticks
parts_sum-returns-in_err-sum-clause-ticks g t c =
    let setting = c.args.setting.now in
    let p = c.args.p.now in
    let es = c.args.pending.now in
    let at = c.split_place.result in
    let front = c.split_at.result.0.now in
    let back = c.split_at.result.1.now in
    let both = parts_products setting (g.K.MonomialKeys.keys c.args.keys.now) c.requires.set p c.args.depth es at front back c.split_at.ensures.front c.split_at.ensures.back in
    omega (arith, c.in_err-sum.ensures.ticks, both)

-- A GROUP
pub group_sum-parts_sum-requires : goal.group_sum-parts_sum-requires
group_sum-parts_sum-requires g t c =
    let setting = c.args.setting.now in
    let keys = g.K.MonomialKeys.keys c.args.keys.now in
    let later = g.K.MonomialKeys.keys c.run_chain.new.keys in
    let kept = c.in_ok-found.ensures.kept in
    λ κs below. (
      omega arith,
      (
        below.0,
        (
          below.1,
          (
            c.requires.some,
            (
              IsSetUnder-kept setting keys later kept c.requires.set,
              (
                AreTermKeys-kept setting c.args.p.now keys later kept c.args.table.now c.requires.table,
                (
                  c.requires.pending,
                  (
                    c.requires.norm,
                    IsReplacedInReach-kept setting.vars.now keys later setting.rows.now setting.den.piece.now setting.top (told c.args.p.now) kept.limits c.requires.reach,
                  ),
                ),
              ),
            ),
          ),
        ),
      ),
    )

pub group_sum-returns-in-Some-clause-chain : goal.group_sum-returns-in-Some-clause-chain
group_sum-returns-in-Some-clause-chain g t c =
    let setting = c.args.setting.now in
    let es = c.args.pending.now in
    subst (λ (o : Option ℕ). IfSome o (λ n. StandsUnder setting.vars.now (g.K.MonomialKeys.keys c.run_chain.new.keys) c.run_chain.new.arena n
    (polynomial_of (factored_terms (map (told_pending setting c.args.p.now c.args.depth) es))))) c.in-Some.is c.in_ok-found.ensures.chain

pub group_sum-returns-in-Some-clause-adds : goal.group_sum-returns-in-Some-clause-adds
group_sum-returns-in-Some-clause-adds g t c =
    subst (λ (o : Option ℕ). IfSome o (AddsChain c.args.arena.now c.run_chain.new.arena)) c.in-Some.is c.in_ok-found.ensures.adds

pub group_sum-returns-in-None-clause-adds : goal.group_sum-returns-in-None-clause-adds
group_sum-returns-in-None-clause-adds g t c =
    let same : SameChains c.args.arena.now c.run_chain.new.arena =
    subst (λ (o : Option ℕ). IfNone o (SameChains c.args.arena.now c.run_chain.new.arena)) c.in-None.is c.in_ok-found.ensures.none in
    IfOk-weaker c.parts_sum.result _ _ (λ v h. AddsChain-same c.args.arena.now c.run_chain.new.arena c.parts_sum.new.arena v same h)
    c.parts_sum.ensures.adds

pub group_sum-returns-in-None-clause-err : goal.group_sum-returns-in-None-clause-err
group_sum-returns-in-None-clause-err g t c =
    let same : SameChains c.args.arena.now c.run_chain.new.arena =
    subst (λ (o : Option ℕ). IfNone o (SameChains c.args.arena.now c.run_chain.new.arena)) c.in-None.is c.in_ok-found.ensures.none in
    on_err_weaker c.parts_sum.result (SameChains-trans c.args.arena.now c.run_chain.new.arena c.parts_sum.new.arena same) c.parts_sum.ensures.err

pub group_sum-returns-in-None-clause-kept : goal.group_sum-returns-in-None-clause-kept
group_sum-returns-in-None-clause-kept g t c =
    KeepsKeys-trans (g.K.MonomialKeys.keys c.args.keys.now) (g.K.MonomialKeys.keys c.run_chain.new.keys)
    (g.K.MonomialKeys.keys c.parts_sum.new.keys) c.in_ok-found.ensures.kept c.parts_sum.ensures.kept

-- WHAT ALL SHARE, MULTIPLIED IN
pub nested_sum-group_sum-requires : goal.nested_sum-group_sum-requires
nested_sum-group_sum-requires g t c =
    let setting = c.args.setting.now in
    let p = c.args.p.now in
    let es = c.args.pending.now in
    let first = c.factors_from-first.result.now in
    let n = c.shared_factors-shared.result in
    let keys = g.K.MonomialKeys.keys c.args.keys.now in
    λ κs below. (
      omega arith,
      (
        below.0,
        (
          below.1,
          (
            omega arith,
            (
              c.requires.set,
              (
                c.requires.table,
                (
                  all_deeper setting keys c.requires.set p c.args.depth n first es c.shared_factors-shared.ensures.shared c.requires.pending,
                  (
                    deeper_norm setting keys c.requires.set p c.args.depth n first es c.shared_factors-shared.ensures.shared c.requires.pending c.requires.norm,
                    c.requires.reach,
                  ),
                ),
              ),
            ),
          ),
        ),
      ),
    )

pub nested_sum-times_factors-requires-in_default-clause-set : goal.nested_sum-times_factors-requires-in_default-clause-set
nested_sum-times_factors-requires-in_default-clause-set g t c =
    IsSetUnder-kept c.args.setting.now (g.K.MonomialKeys.keys c.args.keys.now) (g.K.MonomialKeys.keys c.group_sum.new.keys)
    c.in_ok-whole-in_default.ensures.kept c.requires.set

pub nested_sum-times_factors-requires-in_default-clause-in_order : goal.nested_sum-times_factors-requires-in_default-clause-in_order
nested_sum-times_factors-requires-in_default-clause-in_order g t c =
    let setting = c.args.setting.now in
    let p = c.args.p.now in
    let es = c.args.pending.now in
    let first = c.factors_from-first.result.now in
    let n = c.shared_factors-shared.result in
    let s = g.K.MonomialKeys.keys c.group_sum.new.keys in
    let made = c.in_ok-whole-in_default in
    let base = keyed_terms_under setting.vars.now s (pairs_of c.group_sum.new.arena made.whole) in
    joined_order setting (g.K.MonomialKeys.keys c.args.keys.now) c.requires.set p c.args.depth n first es c.shared_factors-shared.ensures.shared
    c.requires.pending
    c.requires.norm (omega arith) c.front_of-factors.result.now c.front_of-factors.ensures
    base made.ensures.chain.terms

pub nested_sum-times_factors-requires-in_default-clause-monomials : goal.nested_sum-times_factors-requires-in_default-clause-monomials
nested_sum-times_factors-requires-in_default-clause-monomials g t c =
    let setting = c.args.setting.now in
    let p = c.args.p.now in
    let es = c.args.pending.now in
    let first = c.factors_from-first.result.now in
    let n = c.shared_factors-shared.result in
    let s = g.K.MonomialKeys.keys c.group_sum.new.keys in
    let made = c.in_ok-whole-in_default in
    let base = keyed_terms_under setting.vars.now s (pairs_of c.group_sum.new.arena made.whole) in
    joined_monomials setting (g.K.MonomialKeys.keys c.args.keys.now) c.requires.set p c.args.depth n first es c.shared_factors-shared.ensures.shared
    c.requires.pending
    c.requires.norm (omega arith) c.front_of-factors.result.now c.front_of-factors.ensures
    base made.ensures.chain.terms

pub nested_sum-times_factors-requires-in_default-clause-norm : goal.nested_sum-times_factors-requires-in_default-clause-norm
nested_sum-times_factors-requires-in_default-clause-norm g t c =
    let setting = c.args.setting.now in
    let p = c.args.p.now in
    let es = c.args.pending.now in
    let first = c.factors_from-first.result.now in
    let n = c.shared_factors-shared.result in
    let s = g.K.MonomialKeys.keys c.group_sum.new.keys in
    let made = c.in_ok-whole-in_default in
    let base = keyed_terms_under setting.vars.now s (pairs_of c.group_sum.new.arena made.whole) in
    joined_norm setting (g.K.MonomialKeys.keys c.args.keys.now) c.requires.set p c.args.depth n first es c.shared_factors-shared.ensures.shared
    c.requires.pending
    c.requires.norm (omega arith) c.front_of-factors.result.now c.front_of-factors.ensures
    base made.ensures.chain.terms

pub nested_sum-times_factors-requires-in_default-clause-degree : goal.nested_sum-times_factors-requires-in_default-clause-degree
nested_sum-times_factors-requires-in_default-clause-degree g t c =
    let setting = c.args.setting.now in
    let p = c.args.p.now in
    let es = c.args.pending.now in
    let first = c.factors_from-first.result.now in
    let n = c.shared_factors-shared.result in
    let s = g.K.MonomialKeys.keys c.group_sum.new.keys in
    let made = c.in_ok-whole-in_default in
    let base = keyed_terms_under setting.vars.now s (pairs_of c.group_sum.new.arena made.whole) in
    joined_degree setting (g.K.MonomialKeys.keys c.args.keys.now) c.requires.set p c.args.depth n first es c.shared_factors-shared.ensures.shared
    c.requires.pending
    c.requires.norm (omega arith) c.front_of-factors.result.now c.front_of-factors.ensures
    base made.ensures.chain.terms

pub nested_sum-times_factors-requires-in_default-clause-reach : goal.nested_sum-times_factors-requires-in_default-clause-reach
nested_sum-times_factors-requires-in_default-clause-reach g t c =
    let setting = c.args.setting.now in
    let p = c.args.p.now in
    let es = c.args.pending.now in
    let first = c.factors_from-first.result.now in
    let n = c.shared_factors-shared.result in
    let s = g.K.MonomialKeys.keys c.group_sum.new.keys in
    let made = c.in_ok-whole-in_default in
    let base = keyed_terms_under setting.vars.now s (pairs_of c.group_sum.new.arena made.whole) in
    joined_reach setting (g.K.MonomialKeys.keys c.args.keys.now) c.requires.set p c.args.depth n first es c.shared_factors-shared.ensures.shared
    c.requires.pending
    c.requires.norm (omega arith) c.front_of-factors.result.now c.front_of-factors.ensures
    base made.ensures.chain.terms
    (g.K.MonomialKeys.keys c.group_sum.new.keys) c.in_ok-whole-in_default.ensures.kept.limits c.requires.reach

pub nested_sum-returns-in_ok-whole-in_default-clause-chain : goal.nested_sum-returns-in_ok-whole-in_default-clause-chain
nested_sum-returns-in_ok-whole-in_default-clause-chain g t c =
    let setting = c.args.setting.now in
    let p = c.args.p.now in
    let es = c.args.pending.now in
    let first = c.factors_from-first.result.now in
    let n = c.shared_factors-shared.result in
    let s = g.K.MonomialKeys.keys c.group_sum.new.keys in
    let made = c.in_ok-whole-in_default in
    let base = keyed_terms_under setting.vars.now s (pairs_of c.group_sum.new.arena made.whole) in
    IfOk-weaker c.times_factors-in_default.result _ _
    (λ v h. subst (λ (q : Summands). StandsUnder setting.vars.now (g.K.MonomialKeys.keys c.times_factors-in_default.new.keys) c.times_factors-in_default.new.arena v q)
    (joined_made setting (g.K.MonomialKeys.keys c.args.keys.now) c.requires.set p c.args.depth n first es c.shared_factors-shared.ensures.shared
    c.requires.pending
    c.requires.norm (omega arith) c.front_of-factors.result.now c.front_of-factors.ensures
    base made.ensures.chain.terms) h)
    c.times_factors-in_default.ensures.chain

pub nested_sum-returns-in_ok-whole-in_default-clause-adds : goal.nested_sum-returns-in_ok-whole-in_default-clause-adds
nested_sum-returns-in_ok-whole-in_default-clause-adds g t c =
    IfOk-weaker c.times_factors-in_default.result _ _
    (λ v h. AddsChain-swaps c.args.arena.now c.group_sum.new.arena c.times_factors-in_default.new.arena c.in_ok-whole-in_default.whole v c.in_ok-whole-in_default.ensures.adds h)
    c.times_factors-in_default.ensures.swaps

pub nested_sum-returns-in_ok-whole-in_default-clause-err : goal.nested_sum-returns-in_ok-whole-in_default-clause-err
nested_sum-returns-in_ok-whole-in_default-clause-err g t c =
    on_err_weaker c.times_factors-in_default.result
    (gave_back c.args.arena.now c.group_sum.new.arena c.times_factors-in_default.new.arena c.in_ok-whole-in_default.whole c.in_ok-whole-in_default.ensures.adds) c.times_factors-in_default.ensures.err

pub nested_sum-returns-in_ok-whole-in_default-clause-kept : goal.nested_sum-returns-in_ok-whole-in_default-clause-kept
nested_sum-returns-in_ok-whole-in_default-clause-kept g t c =
    KeepsKeys-trans (g.K.MonomialKeys.keys c.args.keys.now) (g.K.MonomialKeys.keys c.group_sum.new.keys)
    (g.K.MonomialKeys.keys c.times_factors-in_default.new.keys) c.in_ok-whole-in_default.ensures.kept c.times_factors-in_default.ensures.kept

pub nested_sum-returns-in_ok-whole-in_default-clause-ticks : goal.nested_sum-returns-in_ok-whole-in_default-clause-ticks
nested_sum-returns-in_ok-whole-in_default-clause-ticks g t c =
    let setting = c.args.setting.now in
    let p = c.args.p.now in
    let es = c.args.pending.now in
    let first = c.factors_from-first.result.now in
    let n = c.shared_factors-shared.result in
    let s = g.K.MonomialKeys.keys c.group_sum.new.keys in
    let made = c.in_ok-whole-in_default in
    let base = keyed_terms_under setting.vars.now s (pairs_of c.group_sum.new.arena made.whole) in
    let chain = pairs_of c.group_sum.new.arena c.in_ok-whole-in_default.whole in
    let size = sym (length-map {B = Powers × ℤ} chain (keyed_term_under setting.vars.now (g.K.MonomialKeys.keys c.group_sum.new.keys))) in
    let whole = joined_products setting (g.K.MonomialKeys.keys c.args.keys.now) c.requires.set p c.args.depth n first es c.shared_factors-shared.ensures.shared
    c.requires.pending
    c.requires.norm (omega arith) c.front_of-factors.result.now c.front_of-factors.ensures
    base made.ensures.chain.terms (length chain) size in
    omega (arith, c.in_ok-whole-in_default.ensures.ticks, c.times_factors-in_default.ensures.ticks, whole)

pub nested_sum-returns-in_err-whole-in_default-clause-ticks : goal.nested_sum-returns-in_err-whole-in_default-clause-ticks
nested_sum-returns-in_err-whole-in_default-clause-ticks g t c =
    let setting = c.args.setting.now in
    let p = c.args.p.now in
    let es = c.args.pending.now in
    let first = c.factors_from-first.result.now in
    let n = c.shared_factors-shared.result in
    let whole = joined_products setting (g.K.MonomialKeys.keys c.args.keys.now) c.requires.set p c.args.depth n first es c.shared_factors-shared.ensures.shared
    c.requires.pending
    c.requires.norm (omega arith) (take n first) refl
    (polynomial_of (factored_terms (map (told_pending setting p (c.args.depth + n)) es))) refl _ refl in
    omega (arith, c.in_err-whole-in_default.ensures.ticks, whole)

-- ONE TERM
pub nested_sum-lone_chain-requires-clause-index : goal.nested_sum-lone_chain-requires-clause-index
nested_sum-lone_chain-requires-clause-index g t c =
    let setting = c.args.setting.now in
    let p = c.args.p.now in
    let es = c.args.pending.now in
    let e = pending_at es 0 in
    let one : es ≡ e ∷ [] = alone es e c.in-len1.len_at_least c.in-len1.len_below (pending_at-is es 0 (omega (arith, c.in-len1.len_at_least))) in
    (lone_pending setting p c.args.depth e es one c.requires.pending).index

pub nested_sum-lone_chain-requires-clause-monomial : goal.nested_sum-lone_chain-requires-clause-monomial
nested_sum-lone_chain-requires-clause-monomial g t c =
    let setting = c.args.setting.now in
    let p = c.args.p.now in
    let es = c.args.pending.now in
    let e = pending_at es 0 in
    let one : es ≡ e ∷ [] = alone es e c.in-len1.len_at_least c.in-len1.len_below (pending_at-is es 0 (omega (arith, c.in-len1.len_at_least))) in
    (lone_pending setting p c.args.depth e es one c.requires.pending).monomial

pub nested_sum-lone_chain-requires-clause-known : goal.nested_sum-lone_chain-requires-clause-known
nested_sum-lone_chain-requires-clause-known g t c =
    let setting = c.args.setting.now in
    let p = c.args.p.now in
    let es = c.args.pending.now in
    let e = pending_at es 0 in
    let one : es ≡ e ∷ [] = alone es e c.in-len1.len_at_least c.in-len1.len_below (pending_at-is es 0 (omega (arith, c.in-len1.len_at_least))) in
    (lone_pending setting p c.args.depth e es one c.requires.pending).known

pub nested_sum-lone_chain-requires-clause-reach : goal.nested_sum-lone_chain-requires-clause-reach
nested_sum-lone_chain-requires-clause-reach g t c =
    let setting = c.args.setting.now in
    let p = c.args.p.now in
    let es = c.args.pending.now in
    let e = pending_at es 0 in
    let one : es ≡ e ∷ [] = alone es e c.in-len1.len_at_least c.in-len1.len_below (pending_at-is es 0 (omega (arith, c.in-len1.len_at_least))) in
    lone_room setting p c.args.depth e es one c.requires.pending (g.K.MonomialKeys.keys c.args.keys.now) c.requires.reach

pub nested_sum-lone_chain-requires-clause-rising : goal.nested_sum-lone_chain-requires-clause-rising
nested_sum-lone_chain-requires-clause-rising g t c =
    c.requires.set.rising

pub nested_sum-times_factors-requires-clause-set : goal.nested_sum-times_factors-requires-clause-set
nested_sum-times_factors-requires-clause-set g t c =
    IsSetUnder-kept c.args.setting.now (g.K.MonomialKeys.keys c.args.keys.now) (g.K.MonomialKeys.keys c.lone_chain.new.keys) c.in_ok-chain-in-len1.ensures.kept c.requires.set

pub nested_sum-times_factors-requires-clause-in_order : goal.nested_sum-times_factors-requires-clause-in_order
nested_sum-times_factors-requires-clause-in_order g t c =
    let setting = c.args.setting.now in
    let p = c.args.p.now in
    let es = c.args.pending.now in
    let e = pending_at es 0 in
    let one : es ≡ e ∷ [] = alone es e c.in-len1.len_at_least c.in-len1.len_below (pending_at-is es 0 (omega (arith, c.in-len1.len_at_least))) in
    lone_order setting p c.args.depth e es one c.requires.pending c.factors_from-factors.result.now c.factors_from-factors.ensures
    (keyed_terms_under setting.vars.now (g.K.MonomialKeys.keys c.lone_chain.new.keys) (pairs_of c.lone_chain.new.arena c.in_ok-chain-in-len1.chain)) c.in_ok-chain-in-len1.ensures.chain.terms

pub nested_sum-times_factors-requires-clause-monomials : goal.nested_sum-times_factors-requires-clause-monomials
nested_sum-times_factors-requires-clause-monomials g t c =
    let setting = c.args.setting.now in
    let p = c.args.p.now in
    let es = c.args.pending.now in
    let e = pending_at es 0 in
    let one : es ≡ e ∷ [] = alone es e c.in-len1.len_at_least c.in-len1.len_below (pending_at-is es 0 (omega (arith, c.in-len1.len_at_least))) in
    lone_monomials setting p c.args.depth e es one c.requires.pending c.factors_from-factors.result.now c.factors_from-factors.ensures
    (keyed_terms_under setting.vars.now (g.K.MonomialKeys.keys c.lone_chain.new.keys) (pairs_of c.lone_chain.new.arena c.in_ok-chain-in-len1.chain)) c.in_ok-chain-in-len1.ensures.chain.terms

pub nested_sum-times_factors-requires-clause-norm : goal.nested_sum-times_factors-requires-clause-norm
nested_sum-times_factors-requires-clause-norm g t c =
    let setting = c.args.setting.now in
    let p = c.args.p.now in
    let es = c.args.pending.now in
    let e = pending_at es 0 in
    let one : es ≡ e ∷ [] = alone es e c.in-len1.len_at_least c.in-len1.len_below (pending_at-is es 0 (omega (arith, c.in-len1.len_at_least))) in
    lone_norm setting p c.args.depth e es one c.requires.pending c.factors_from-factors.result.now c.factors_from-factors.ensures
    (keyed_terms_under setting.vars.now (g.K.MonomialKeys.keys c.lone_chain.new.keys)
    (pairs_of c.lone_chain.new.arena c.in_ok-chain-in-len1.chain)) c.in_ok-chain-in-len1.ensures.chain.terms c.requires.norm

pub nested_sum-times_factors-requires-clause-degree : goal.nested_sum-times_factors-requires-clause-degree
nested_sum-times_factors-requires-clause-degree g t c =
    let setting = c.args.setting.now in
    let p = c.args.p.now in
    let es = c.args.pending.now in
    let e = pending_at es 0 in
    let one : es ≡ e ∷ [] = alone es e c.in-len1.len_at_least c.in-len1.len_below (pending_at-is es 0 (omega (arith, c.in-len1.len_at_least))) in
    lone_degree setting p c.args.depth e es one c.requires.pending c.factors_from-factors.result.now c.factors_from-factors.ensures
    (keyed_terms_under setting.vars.now (g.K.MonomialKeys.keys c.lone_chain.new.keys) (pairs_of c.lone_chain.new.arena c.in_ok-chain-in-len1.chain)) c.in_ok-chain-in-len1.ensures.chain.terms

pub nested_sum-times_factors-requires-clause-reach : goal.nested_sum-times_factors-requires-clause-reach
nested_sum-times_factors-requires-clause-reach g t c =
    let setting = c.args.setting.now in
    let p = c.args.p.now in
    let es = c.args.pending.now in
    let e = pending_at es 0 in
    let one : es ≡ e ∷ [] = alone es e c.in-len1.len_at_least c.in-len1.len_below (pending_at-is es 0 (omega (arith, c.in-len1.len_at_least))) in
    lone_reach setting p c.args.depth e es one c.requires.pending c.factors_from-factors.result.now c.factors_from-factors.ensures
    (keyed_terms_under setting.vars.now (g.K.MonomialKeys.keys c.lone_chain.new.keys) (pairs_of c.lone_chain.new.arena c.in_ok-chain-in-len1.chain)) c.in_ok-chain-in-len1.ensures.chain.terms
    (g.K.MonomialKeys.keys c.args.keys.now) (g.K.MonomialKeys.keys c.lone_chain.new.keys) c.in_ok-chain-in-len1.ensures.kept.limits c.requires.reach

pub nested_sum-returns-in_ok-chain-in-len1-clause-chain : goal.nested_sum-returns-in_ok-chain-in-len1-clause-chain
nested_sum-returns-in_ok-chain-in-len1-clause-chain g t c =
    let setting = c.args.setting.now in
    let p = c.args.p.now in
    let es = c.args.pending.now in
    let e = pending_at es 0 in
    let one : es ≡ e ∷ [] = alone es e c.in-len1.len_at_least c.in-len1.len_below (pending_at-is es 0 (omega (arith, c.in-len1.len_at_least))) in
    IfOk-weaker c.times_factors.result _ _
    (λ v h. subst (λ (q : Summands). StandsUnder setting.vars.now (g.K.MonomialKeys.keys c.times_factors.new.keys) c.times_factors.new.arena v q)
    (lone_made setting p c.args.depth e es one c.requires.pending c.factors_from-factors.result.now c.factors_from-factors.ensures
    (keyed_terms_under setting.vars.now (g.K.MonomialKeys.keys c.lone_chain.new.keys) (pairs_of c.lone_chain.new.arena c.in_ok-chain-in-len1.chain)) c.in_ok-chain-in-len1.ensures.chain.terms) h)
    c.times_factors.ensures.chain

pub nested_sum-returns-in_ok-chain-in-len1-clause-adds : goal.nested_sum-returns-in_ok-chain-in-len1-clause-adds
nested_sum-returns-in_ok-chain-in-len1-clause-adds g t c =
    IfOk-weaker c.times_factors.result _ _
    (λ v h. AddsChain-swaps c.args.arena.now c.lone_chain.new.arena c.times_factors.new.arena c.in_ok-chain-in-len1.chain v c.in_ok-chain-in-len1.ensures.adds h)
    c.times_factors.ensures.swaps

pub nested_sum-returns-in_ok-chain-in-len1-clause-err : goal.nested_sum-returns-in_ok-chain-in-len1-clause-err
nested_sum-returns-in_ok-chain-in-len1-clause-err g t c =
    on_err_weaker c.times_factors.result
    (gave_back c.args.arena.now c.lone_chain.new.arena c.times_factors.new.arena c.in_ok-chain-in-len1.chain c.in_ok-chain-in-len1.ensures.adds)
    c.times_factors.ensures.err

pub nested_sum-returns-in_ok-chain-in-len1-clause-ticks : goal.nested_sum-returns-in_ok-chain-in-len1-clause-ticks
nested_sum-returns-in_ok-chain-in-len1-clause-ticks g t c =
    let setting = c.args.setting.now in
    let p = c.args.p.now in
    let es = c.args.pending.now in
    let e = pending_at es 0 in
    let one : es ≡ e ∷ [] = alone es e c.in-len1.len_at_least c.in-len1.len_below (pending_at-is es 0 (omega (arith, c.in-len1.len_at_least))) in
    let size = sym (length-map {B = Powers × ℤ} (pairs_of c.lone_chain.new.arena c.in_ok-chain-in-len1.chain) (keyed_term_under setting.vars.now (g.K.MonomialKeys.keys c.lone_chain.new.keys))) in
    let whole = lone_products setting p c.args.depth e es one c.requires.pending c.factors_from-factors.result.now c.factors_from-factors.ensures
    (keyed_terms_under setting.vars.now (g.K.MonomialKeys.keys c.lone_chain.new.keys) (pairs_of c.lone_chain.new.arena c.in_ok-chain-in-len1.chain))
    c.in_ok-chain-in-len1.ensures.chain.terms (length (pairs_of c.lone_chain.new.arena c.in_ok-chain-in-len1.chain)) size in
    omega (arith, c.times_factors.ensures.ticks, whole)
