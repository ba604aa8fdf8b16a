use Rattle.std.proofs.Common.{◌≡◌, drop}
use Rattle.geo_poly.specs.Replace.{row_of}
use Rattle.geo_poly.proofs.row_table.first_place.Given as goal

abbrev pub invariant-loop-i : goal.invariant-loop-i
invariant-loop-i l = row_of (drop l.i l.rows) l.v ≡ row_of l.rows l.v
