use Rattle.std.proofs.Common.{◌≡◌, take}
use Rattle.sparse_lists.specs.SparseLists.{AllKeys}
use Rattle.geo_poly.specs.Inner.Keyed.{IsIndexUnder, KeepsKeys, terms_under}
use Rattle.geo_poly.specs.Inner.Moved.{AreMoved}
use Rattle.geo_poly.specs.Shared.{told}
use Rattle.geo_poly.proofs.moving.looked_up.Given as goal

abbrev pub invariant-loop-id : goal.invariant-loop-id
invariant-loop-id g l = record {
  kept : KeepsKeys (g.K.MonomialKeys.keys l.fn.keys) (g.K.MonomialKeys.keys l.keys);
  table : AreMoved l.p l.rows l.vars (g.K.MonomialKeys.keys l.keys) l.table;
  indices : AllKeys (IsIndexUnder l.vars (g.K.MonomialKeys.keys l.keys)) l.list.items;
  terms : terms_under l.vars (g.K.MonomialKeys.keys l.keys) l.list.items ≡ take l.id-index (told l.p);
}
