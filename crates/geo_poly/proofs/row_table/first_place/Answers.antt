use Rattle.std.proofs.Common.{◌≡◌, true, get_or, rules}
use Rattle.std.specs.Ordering.{is_eq}
use Rattle.geo_poly.specs.Variables.{var_cmp}
use Rattle.geo_poly.proofs.RowPlaces.{first_at}
use Rattle.geo_poly.proofs.row_table.first_place.Goals as goal

pub returns-then-eq-clause-row : goal.returns-then-eq-clause-row
returns-then-eq-clause-row c =
    let same : is_eq (var_cmp (get_or c.args.rows.now c.loop-i.i c.index-rows-i.result).var c.args.v) ≡ true = search rules in
    first_at c.args.rows.now c.loop-i.i c.index-rows-i.result c.args.v c.loop-i-test.true same c.loop-i.invariant
