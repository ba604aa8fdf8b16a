use Rattle.std.proofs.Common.{◌-◌, rules, arith}
use Rattle.geo_poly.proofs.RowPlaces.{front_row}
use Rattle.geo_poly.proofs.row_table.first_places.Goals as goal

pub loop-i-preserved : goal.loop-i-preserved
loop-i-preserved c =
    front_row c.args.rows.now c.loop-i.i (c.loop-i.i - 1) c.index-rows-i.result c.loop-i.places c.insert.new.self
    (search rules) (omega (arith, c.loop-i-test.true)) c.in_ok-insert.ensures.updates c.loop-i.invariant
