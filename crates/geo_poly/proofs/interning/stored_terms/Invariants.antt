use Rattle.std.proofs.Common.{◌≡◌, take}
use Rattle.mono_store.specs.Stores.{Keeps}
use Rattle.sparse_lists.specs.SparseLists.{AllKeys}
use Rattle.geo_poly.specs.Shared.{IsIndex, terms_of}
use Rattle.geo_poly.proofs.interning.stored_terms.Given as goal

abbrev pub invariant-loop-term : goal.invariant-loop-term
invariant-loop-term l = record {
  kept : Keeps l.fn.store l.store;
  indices : AllKeys (IsIndex l.vars l.store) l.list.items;
  terms : terms_of l.vars l.store l.list.items ≡ take l.term-index l.terms;
}
