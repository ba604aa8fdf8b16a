use Rattle.std.proofs.Common.{take}
use Rattle.geo_poly.specs.Inner.Keyed.{KeepsKeys}
use Rattle.geo_poly.specs.Inner.Settings.{AreStoredUnder}
use Rattle.geo_poly.proofs.chained_replacement.stored_rows.Given as goal

abbrev pub invariant-loop-row : goal.invariant-loop-row
invariant-loop-row g l = record {
  kept : KeepsKeys (g.K.MonomialKeys.keys l.fn.keys) (g.K.MonomialKeys.keys l.keys);
  stored : AreStoredUnder l.vars (g.K.MonomialKeys.keys l.keys) (take l.row-index l.rows) l.nums.items;
}
