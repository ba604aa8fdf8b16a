use Rattle.std.proofs.Common.{◌≡◌, take}
use Rattle.sparse_lists.specs.SparseLists.{AllKeys}
use Rattle.geo_poly.specs.Polynomials.{negated}
use Rattle.geo_poly.specs.Shared.{IsIndex, terms_of}
use Rattle.geo_poly.proofs.sums.negated_list.Given as goal

abbrev pub invariant-loop-id : goal.invariant-loop-id
invariant-loop-id l = record {
  indices : AllKeys (IsIndex l.p.vars.now l.p.monos.now) l.opposite.items;
  terms : terms_of l.p.vars.now l.p.monos.now l.opposite.items ≡ negated (take l.id-index (terms_of l.p.vars.now l.p.monos.now l.p.list.now));
}
