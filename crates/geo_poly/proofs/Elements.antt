-- Lists of indices as elements of a ring.
use Rattle.std.proofs.Common.{◌≡◌, List, refl, sym, subst, ◌∙◌}
use Rattle.std.specs.List.Sorted.{IsStrictlySortedBy}
use Rattle.sparse_lists.specs.SparseLists.{AllKeys}
use Rattle.mono_store.specs.Stores.{Store}
use Rattle.geo_poly.specs.declared.variables.Var.{Var}
use Rattle.geo_poly.specs.Polynomials.{IsPolynomial, Summands}
use Rattle.geo_poly.specs.Rings.{Grows, IsElementFor, RingValue}
use Rattle.geo_poly.specs.Shared.{Indices, IsIndex, terms_of}
use Rattle.geo_poly.specs.Variables.{var_cmp}
use Rattle.geo_poly.proofs.Told.{indices-kept, terms_of-kept}

pub made_element : (r : RingValue) (vars : List Var) (store : Store) (element : Indices) (p : Summands) → record { vars = vars; store = store } ≡ r
    → IsStrictlySortedBy var_cmp vars → AllKeys (IsIndex vars store) element → terms_of vars store element ≡ p → IsPolynomial p → IsElementFor r p element
made_element r vars store element p e rising indices is polynomial =
    subst (λ (x : RingValue). IsElementFor x p element) e
    (record { element_of = record { rising = rising; indices = indices; polynomial = subst IsPolynomial (sym is) polynomial }; polynomial = is })

-- an element stays one where the ring grows
pub element_kept : (old new : RingValue) (p : Summands) (element : Indices) → Grows old new → IsElementFor old p element → IsElementFor new p element
element_kept old new p element grows h =
    made_element new old.vars new.store element p (subst (λ (vs : List Var). record { vars = vs; store = new.store } ≡ new) grows.vars refl) h.element_of.rising
    (indices-kept old.vars old.store new.store element grows.kept h.element_of.indices)
    (terms_of-kept old.vars old.store new.store element grows.kept h.element_of.indices ∙ h.polynomial)
    (subst IsPolynomial h.polynomial h.element_of.polynomial)
