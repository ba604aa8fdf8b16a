use Rattle.std.proofs.Common.{All}
use Rattle.geo_poly.specs.Inner.RowTables.{IsKnown}
use Rattle.geo_poly.proofs.row_table.known_places.Given as goal

abbrev pub invariant-loop-v : goal.invariant-loop-v
invariant-loop-v l = All (IsKnown l.rows) l.known.items
