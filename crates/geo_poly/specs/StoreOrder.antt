-- The order of the indices of a store, by their monomials.
use Rattle.std.specs.Prelude.{ℕ}
use Rattle.std.proofs.Common.{ap, ◌∙◌}
use Rattle.std.specs.Ordering.{ordering_reverse}
use Rattle.std.specs.declared.cmp.Ordering.{Ordering}
use Rattle.std.proofs.lemmas.Cmp.{tied_itself}
use Rattle.mono_store.specs.declared.links.MonoId.{MonoId}
use Rattle.mono_store.specs.Monomials.{monomial_cmp}
use Rattle.mono_store.specs.Stores.{Store, IsStore, count, monomial_of}
use Rattle.mono_store.proofs.EqualIndices.{equal_indices}
use Rattle.mono_store.proofs.Numbers.{monomial_exact, monomial_total}
use Rattle.poly_arena.specs.Orders.{IsOrderBelow}

-- `Greater` at the index of the earlier monomial
abbrev pub index_cmp : Store → ℕ → ℕ → Ordering
index_cmp store a b = monomial_cmp (monomial_of store (record { 0 = a })) (monomial_of store (record { 0 = b }))

pub index_order : (store : Store) → IsStore store → IsOrderBelow (count store) (index_cmp store)
index_order store h = record {
  self = λ a within. tied_itself monomial_total (monomial_of store (record { 0 = a }));
  exact = λ a b a_in b_in e.
      ap (λ (id : MonoId). id.0)
      (equal_indices store (record { 0 = a }) (record { 0 = b }) h a_in b_in
      (monomial_exact (monomial_of store (record { 0 = a })) (monomial_of store (record { 0 = b })) e));
  flip = λ a b a_in b_in e.
      monomial_total.antisymm (monomial_of store (record { 0 = b })) (monomial_of store (record { 0 = a })) ∙ ap ordering_reverse e;
  flip_back = λ a b a_in b_in e.
      monomial_total.antisymm (monomial_of store (record { 0 = b })) (monomial_of store (record { 0 = a })) ∙ ap ordering_reverse e;
  trans = λ a b c a_in b_in c_in e f.
      monomial_total.trans (monomial_of store (record { 0 = a })) (monomial_of store (record { 0 = b }))
      (monomial_of store (record { 0 = c })) e f;
}
