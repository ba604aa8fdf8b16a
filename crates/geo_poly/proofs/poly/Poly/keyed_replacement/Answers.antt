use Rattle.std.proofs.Common.{List, sym, subst}
use Rattle.geo_poly.specs.declared.rows.Row.{Row}
use Rattle.geo_poly.specs.Inner.Keyed.{AreWithinLimits}
use Rattle.geo_poly.specs.Inner.Settings.{AreStoredUnder, IsStoredUnder}
use Rattle.geo_poly.specs.Shared.{Indices}
use Rattle.geo_poly.proofs.ChainSwaps.{AreStoredUnder-kept}
use Rattle.geo_poly.proofs.InReach.{IsReplacedInReach-kept, IsWithinLimits-kept}
use Rattle.geo_poly.proofs.KeysKept.{KeepsKeys-trans}
use Rattle.geo_poly.proofs.poly.Poly.keyed_replacement.Goals as goal

pub stored_rows-requires-clause-reach : goal.stored_rows-requires-clause-reach
stored_rows-requires-clause-reach g c =
    subst (λ (rs : List Row). AreWithinLimits c.args.vars.now (g.K.MonomialKeys.keys c.args.keys.now) rs) (sym c.rows.ensures) c.requires.rows_reach

pub stored_poly-requires-clause-reach : goal.stored_poly-requires-clause-reach
stored_poly-requires-clause-reach g c =
    IsWithinLimits-kept c.args.vars.now (g.K.MonomialKeys.keys c.args.keys.now) (g.K.MonomialKeys.keys c.stored_rows.new.keys) c.args.den.now.poly
    c.stored_rows.ensures.kept.limits c.requires.den_reach

pub listed_replacement-requires-clause-rows_stored : goal.listed_replacement-requires-clause-rows_stored
listed_replacement-requires-clause-rows_stored g c =
    let vars = c.args.vars.now in
    let s1 = g.K.MonomialKeys.keys c.stored_rows.new.keys in
    let s2 = g.K.MonomialKeys.keys c.stored_poly.new.keys in
    let rows = c.args.rows.now in
    let nums = c.in_ok-nums.nums.items in
    let stored = subst (λ (rs : List Row). AreStoredUnder vars s1 rs nums) c.rows.ensures c.in_ok-nums.ensures.stored in
    subst (λ (lists : List Indices). AreStoredUnder vars s2 rows lists) (sym c.deref-2.ensures.value)
    (AreStoredUnder-kept vars s1 s2 rows nums c.in_ok-list.ensures.kept stored)

pub listed_replacement-requires-clause-den_stored : goal.listed_replacement-requires-clause-den_stored
listed_replacement-requires-clause-den_stored g c =
    subst (λ (list : Indices). IsStoredUnder c.args.vars.now (g.K.MonomialKeys.keys c.stored_poly.new.keys) list c.args.den.now.poly) (sym c.deref.ensures.value)
    c.in_ok-list.ensures.stored

pub listed_replacement-requires-clause-reach : goal.listed_replacement-requires-clause-reach
listed_replacement-requires-clause-reach g c =
    let s0 = g.K.MonomialKeys.keys c.args.keys.now in
    let s1 = g.K.MonomialKeys.keys c.stored_rows.new.keys in
    let s2 = g.K.MonomialKeys.keys c.stored_poly.new.keys in
    let kept = KeepsKeys-trans s0 s1 s2 c.stored_rows.ensures.kept c.stored_poly.ensures.kept in
    IsReplacedInReach-kept c.args.vars.now s0 s2 c.args.rows.now c.args.den.now c.args.top c.args.self.now kept.limits c.requires.reach

pub returns-clause-kept : goal.returns-clause-kept
returns-clause-kept g c =
    let s0 = g.K.MonomialKeys.keys c.args.keys.now in
    let s1 = g.K.MonomialKeys.keys c.stored_rows.new.keys in
    let s2 = g.K.MonomialKeys.keys c.stored_poly.new.keys in
    KeepsKeys-trans s0 s2 (g.K.MonomialKeys.keys c.listed_replacement.new.keys) (KeepsKeys-trans s0 s1 s2 c.stored_rows.ensures.kept c.stored_poly.ensures.kept)
    c.listed_replacement.ensures.kept
