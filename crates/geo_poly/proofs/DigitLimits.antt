-- Limits of digits bound the exponents of what is made of words alone.
use Rattle.std.proofs.Common.{◌≡◌, ℕ, ◌<◌, ◌≤◌, List, [], ◌∷◌, length, sym, subst, arith}
use Rattle.std.specs.List.Sorted.{IsStrictlySortedBy}
use Rattle.sparse_lists.specs.SparseLists.{AllKeys}
use Rattle.mono_store.specs.declared.links.MonoId.{MonoId}
use Rattle.mono_store.specs.Monomials.{Powers as NumberedPowers, exponent as numbered_exponent}
use Rattle.mono_store.specs.Stores.{Store, monomial_of}
use Rattle.mono_store.specs.Words.{limit, powers_of_word}
use Rattle.mono_store.proofs.Unfolding.{monomial_of-word}
use Rattle.mono_store.proofs.WordDigits.{FitsLimits-powers_of_word}
use Rattle.geo_poly.specs.declared.variables.Var.{Var}
use Rattle.geo_poly.specs.Inner.Keyed.{greatest_exponent}
use Rattle.geo_poly.specs.Inner.Limits.{AreGreatest}
use Rattle.geo_poly.specs.Monomials.{exponent}
use Rattle.geo_poly.specs.Shared.{Indices, IsIndex, powers_at, terms_of, var_at}
use Rattle.geo_poly.specs.Variables.{var_cmp}
use Rattle.geo_poly.proofs.InReach.{exponent-named}

module _ (vars : List Var) (rising : IsStrictlySortedBy var_cmp vars) (store : Store) (none : length store.links ≡ 0) where
  monomial-within : (id : MonoId) → IsIndex vars store id → (i : ℕ) → i < length vars
      → exponent (var_at vars i) (powers_at vars store id) ≤ limit store.limits i
  monomial-within id index i known =
      let below = index.within in
      let word : monomial_of store id ≡ powers_of_word store.limits id.0 = monomial_of-word store id (omega (arith, below, none)) in
      let most : numbered_exponent i (monomial_of store id) ≤ limit store.limits i =
      subst (λ (m : NumberedPowers). numbered_exponent i m ≤ limit store.limits i) (sym word) ((FitsLimits-powers_of_word store.limits id.0).exponents i) in
      omega (arith, exponent-named vars rising i (monomial_of store id) known index.places, most)

  terms-within : (list : Indices) → AllKeys (IsIndex vars store) list → (i : ℕ) → i < length vars
      → greatest_exponent (var_at vars i) (terms_of vars store list) ≤ limit store.limits i
  terms-within [] h i known = omega arith
  terms-within (t ∷ list) h i known = omega (arith, monomial-within t.0 h.0 i known, terms-within list h.1 i known)

  pub AreGreatest-limits : (list : Indices) → AllKeys (IsIndex vars store) list → AreGreatest vars store.limits (terms_of vars store list)
  AreGreatest-limits list h = record { each = terms-within list h }
