use Rattle.std.proofs.Common.{◌≡◌, length}
use Rattle.elim_apply.specs.Inner.Sketches.{AreRising, sketches}
use Rattle.geo_poly.specs.Replace.{row_of}
use Rattle.elim_apply.proofs.RisingRows.{HaveLater}
use Rattle.elim_apply.proofs.known_rows.next_row.Given as goal

abbrev pub invariant-loop-row : goal.invariant-loop-row
invariant-loop-row l = record {
  rising : AreRising l.left;
  here : row_of (sketches l.left) l.v ≡ row_of (sketches l.rows) l.v;
  later : HaveLater l.rows l.left l.v;
}

abbrev pub decreases-loop-row : goal.decreases-loop-row
decreases-loop-row l = length l.left
