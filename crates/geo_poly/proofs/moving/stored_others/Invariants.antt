use Rattle.std.proofs.Common.{◌≡◌, ◌≤◌, drop, length}
use Rattle.geo_poly.specs.Replace.{others}
use Rattle.geo_poly.specs.Inner.Keyed.{KeepsKeys}
use Rattle.geo_poly.specs.Keys.{IsKeyUnder}
use Rattle.geo_poly.specs.Shared.{named}
use Rattle.geo_poly.proofs.moving.stored_others.Given as goal

abbrev pub invariant-loop-i : goal.invariant-loop-i
invariant-loop-i g l = record {
  kept : KeepsKeys (g.K.MonomialKeys.keys l.fn.keys) (g.K.MonomialKeys.keys l.keys);
  index : IsKeyUnder l.vars (g.K.MonomialKeys.keys l.keys) l.key;
  left : l.i ≤ length l.powers;
  powers : named l.vars ((g.K.MonomialKeys.keys l.keys).powers l.key) ≡ others l.rows (drop l.i l.powers);
}

abbrev pub decreases-loop-i : goal.decreases-loop-i
decreases-loop-i g l = l.i
