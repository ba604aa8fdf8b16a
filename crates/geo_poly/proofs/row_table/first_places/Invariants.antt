use Rattle.geo_poly.proofs.RowPlaces.{AreFirstFrom}
use Rattle.geo_poly.proofs.row_table.first_places.Given as goal

abbrev pub invariant-loop-i : goal.invariant-loop-i
invariant-loop-i l = AreFirstFrom l.rows l.places l.i
