use Rattle.std.proofs.Common.{◌≡◌, filter, take}
use Rattle.sparse_lists.specs.SparseLists.{AllKeys}
use Rattle.geo_poly.specs.Shared.{IsIndexOf, terms_of, told}
use Rattle.geo_poly.specs.Inner.Parts.{has}
use Rattle.geo_poly.proofs.specialisation.having.Given as goal

abbrev pub invariant-loop-id : goal.invariant-loop-id
invariant-loop-id l = record {
  indices : AllKeys (IsIndexOf l.p) l.list.items;
  terms : terms_of l.p.vars.now l.p.monos.now l.list.items ≡ filter (has l.v) (take l.id-index (told l.p));
}
