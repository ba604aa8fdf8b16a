use Rattle.std.proofs.Common.{◌≡◌, ◌<◌, get_or, length, arith, rules}
use Rattle.std.proofs.lemmas.Cmp.{eq_by_cmp_equiv}
use Rattle.std.specs.BTreeMap.{get}
use Rattle.std.specs.Ordering.{eq_by_cmp}
use Rattle.first_seen.proofs.Places.{all_places, next_place}
use Rattle.first_seen.proofs.first_seen.places_of.Goals as goal

pub loop-i-preserved : goal.loop-i-preserved
loop-i-preserved g c =
    let within : c.loop-i.i < length c.args.keys.now = omega (arith, c.loop-i-test.true) in
    let at : get_or c.args.keys.now c.loop-i.i c.index-keys-i.result ≡ c.index-keys-i.result = search rules in
    next_place (eq_by_cmp g.K.Ord.cmp) (eq_by_cmp_equiv g.met.K.Ord.total) c.args.keys.now c.loop-i.i c.index-keys-i.result
    (get g.K.Ord.cmp c.loop-i.places) (get g.K.Ord.cmp c.insert.new.self) within at c.in_ok-insert.ensures.updates.0 c.loop-i.invariant

pub returns : goal.returns
returns g c =
    all_places (eq_by_cmp g.K.Ord.cmp) c.args.keys.now c.loop-i.i (get g.K.Ord.cmp c.loop-i.places)
    (omega (arith, c.loop-i-test.false)) c.loop-i.invariant
