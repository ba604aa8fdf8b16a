use Rattle.std.proofs.Common.{◌≡◌, length}
use Rattle.geo_poly.specs.Inner.Keyed.{KeepsKeys}
use Rattle.geo_poly.specs.Inner.Moved.{AreMovedLinks}
use Rattle.geo_poly.proofs.moving.moved_links.Given as goal

abbrev pub invariant-loop-k : goal.invariant-loop-k
invariant-loop-k g l = record {
  kept : KeepsKeys (g.K.MonomialKeys.keys l.fn.keys) (g.K.MonomialKeys.keys l.keys);
  moved : AreMovedLinks l.p l.rows l.vars (g.K.MonomialKeys.keys l.keys) l.links.items;
  reached : length l.links.items ≡ l.k;
}
