use Rattle.std.proofs.Common.{◌++◌, ◌∷◌, [], List, take, sym, subst}
use Rattle.std.specs.Prelude.{Contains}
use Rattle.geo_poly.specs.declared.rows.Row.{Row}
use Rattle.geo_poly.specs.Inner.Settings.{AreStoredUnder}
use Rattle.geo_poly.proofs.ChainSwaps.{AllNumerators-at, AreStoredUnder-kept, AreStoredUnder-push}
use Rattle.geo_poly.proofs.InReach.{row_within}
use Rattle.geo_poly.proofs.KeysKept.{KeepsKeys-trans}
use Rattle.geo_poly.proofs.Told.{take_more}
use Rattle.geo_poly.proofs.chained_replacement.stored_rows.Goals as goal

pub stored_near-requires-clause-known : goal.stored_near-requires-clause-known
stored_near-requires-clause-known g c =
    AllNumerators-at (Contains c.args.vars.now) c.args.rows.now c.loop-row.row-index c.row-item.result c.loop-row-test.true c.row-item.is c.requires.known

pub stored_near-requires-clause-reach : goal.stored_near-requires-clause-reach
stored_near-requires-clause-reach g c =
    row_within c.args.vars.now (g.K.MonomialKeys.keys c.args.keys.now) (g.K.MonomialKeys.keys c.loop-row.keys) c.args.rows.now c.loop-row.row-index c.row-item.result
    c.loop-row-test.true c.row-item.is c.loop-row.invariant.kept.limits c.requires.reach

pub loop-row-preserved : goal.loop-row-preserved
loop-row-preserved g c =
    let vars = c.args.vars.now in
    let first = g.K.MonomialKeys.keys c.args.keys.now in
    let old = g.K.MonomialKeys.keys c.loop-row.keys in
    let new = g.K.MonomialKeys.keys c.stored_near.new.keys in
    let rows = c.args.rows.now in
    let row = c.row-item.result in
    let i = c.loop-row.row-index in
    let nums = c.loop-row.nums.items in
    let list = c.in_ok-items.items.items in
    let grown = c.in_ok-items.ensures.kept in
    record {
      kept = KeepsKeys-trans first old new c.loop-row.invariant.kept grown;
      stored = rw c.in_ok-push.ensures.items
          (subst (λ (rs : List Row). AreStoredUnder vars new rs (nums ++ list ∷ [])) (sym (take_more rows i row c.loop-row-test.true c.row-item.is))
          (AreStoredUnder-push vars new (take i rows) nums row list (AreStoredUnder-kept vars old new (take i rows) nums grown c.loop-row.invariant.stored) c.in_ok-items.ensures.stored));
    }
