use Rattle.std.proofs.Common.{◌≡◌, ◌+◌, ◌-◌, arith}
use Rattle.mono_store.specs.Stores.{words}
use Rattle.geo_poly.proofs.Moved.{entry_moved}
use Rattle.geo_poly.proofs.moving.new_index.Goals as goal

pub returns-clause-moved : goal.returns-clause-moved
returns-clause-moved g c =
    let count = c.words-words.ensures.count in
    let place : c.args.id.0 ≡ words c.args.p.now.monos.now + (c.args.id.0 - c.words-words.result) = omega (arith, count) in
    entry_moved c.args.p.now c.args.rows.now c.args.vars.now (g.K.MonomialKeys.keys c.args.keys.now) c.args.links.now c.args.id
    (c.args.id.0 - c.words-words.result) c.entry_at-entry.result c.requires.links place c.entry_at-entry.ensures
