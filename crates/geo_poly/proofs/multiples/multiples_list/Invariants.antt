use Rattle.std.proofs.Common.{◌≡◌, take}
use Rattle.sparse_lists.specs.SparseLists.{AllKeys}
use Rattle.mono_store.specs.Stores.{Keeps}
use Rattle.geo_poly.specs.Polynomials.{multiples}
use Rattle.geo_poly.specs.Shared.{IsIndex, term_of, terms_of}
use Rattle.geo_poly.proofs.multiples.multiples_list.Given as goal

abbrev pub invariant-loop-id : goal.invariant-loop-id
invariant-loop-id l = record {
  kept : Keeps l.fn.store l.store;
  indices : AllKeys (IsIndex l.vars l.store) l.product.items;
  terms : terms_of l.vars l.store l.product.items ≡ multiples (term_of l.vars l.fn.store l.t) (take l.id-index (terms_of l.vars l.fn.store l.list));
}
