use Rattle.std.proofs.Common.{◌≡◌, ◌+◌, [], ap, length, rules, arith}
use Rattle.mono_store.specs.Stores.{words}
use Rattle.geo_poly.proofs.KeysKept.{KeepsKeys-refl, KeepsKeys-trans}
use Rattle.geo_poly.proofs.Moved.{AreMovedLinks-kept, AreMovedLinks-push, no_links}
use Rattle.geo_poly.proofs.moving.moved_links.Goals as goal

pub loop-k-init : goal.loop-k-init
loop-k-init g c =
    let keys = g.K.MonomialKeys.keys c.args.keys.now in
    let none : c.in_ok-links.links.items ≡ [] = search rules in
    record {
      kept = KeepsKeys-refl keys;
      moved = no_links c.args.p.now c.args.rows.now c.args.vars.now keys c.in_ok-links.links.items none;
      reached = ap length none;
    }

pub loop-k-preserved : goal.loop-k-preserved
loop-k-preserved g c =
    let p = c.args.p.now in
    let rows = c.args.rows.now in
    let vars = c.args.vars.now in
    let first = g.K.MonomialKeys.keys c.args.keys.now in
    let old = g.K.MonomialKeys.keys c.loop-k.keys in
    let new = g.K.MonomialKeys.keys c.moved_entry.new.keys in
    let links = c.loop-k.links.items in
    let kept = c.in_ok-new.ensures.kept in
    let place : c.words-words.result + c.loop-k.k ≡ words c.args.p.now.monos.now + length c.loop-k.links.items =
    omega (arith, c.words-words.ensures.count, c.loop-k.invariant.reached) in
    record {
      kept = KeepsKeys-trans first old new c.loop-k.invariant.kept kept;
      moved = rw c.in_ok-push.ensures.items
          (AreMovedLinks-push p rows vars new links (record { 0 = c.words-words.result + c.loop-k.k }) c.in_ok-new.new place
          (AreMovedLinks-kept p rows vars old new kept links c.loop-k.invariant.moved) c.in_ok-new.ensures.moved);
      reached = search rules;
    }
