use Rattle.std.proofs.Common.{◌≡◌, ℕ, ◌<◌, List, ℤ, [], ◌∷◌, pos, length, refl, sym, ap, subst, ◌∙◌, arith}
use Rattle.std.proofs.lemmas.List.{get_or-map}
use Rattle.sparse_lists.proofs.Merging.{get_or_any}
use Rattle.sparse_lists.proofs.Sums.{AllKeys-at}
use Rattle.mono_store.specs.declared.links.MonoId.{MonoId}
use Rattle.mono_store.specs.Monomials.{Powers as NumberedPowers}
use Rattle.mono_store.specs.Stores.{IsStore, Store}
use Rattle.mono_store.proofs.EqualIndices.{equal_indices}
use Rattle.mono_store.proofs.Unfolding.{monomial_of-one}
use Rattle.mono_store.proofs.WordOrder.{word_count-some}
use Rattle.geo_poly.specs.declared.stored.Stored.{Stored}
use Rattle.geo_poly.specs.declared.variables.Var.{Var}
use Rattle.geo_poly.specs.Monomials.{Powers}
use Rattle.geo_poly.specs.Polynomials.{term_at}
use Rattle.geo_poly.specs.Shared.{Indices, IsIndex, IsShared, named, powers_at, term_of}
use Rattle.geo_poly.specs.Stored.{stored_terms}
use Rattle.geo_poly.proofs.Told.{item, length-terms_of}
use Rattle.geo_poly.proofs.stored.Stored.mono_at.Goals as goal

unnamed : (vars : List Var) (m : NumberedPowers) → named vars m ≡ [] → m ≡ []
unnamed vars [] e = refl
unnamed vars (p ∷ m) e = absurd (cc)

-- the index 0 is that of the monomial with no variable
one_first : (vars : List Var) (store : Store) (id : MonoId) → id.0 ≡ 0 → powers_at vars store id ≡ []
one_first vars store id e = ap (named vars) (monomial_of-one store id e)

first_one : (vars : List Var) (store : Store) (id : MonoId) → IsStore store → IsIndex vars store id → powers_at vars store id ≡ [] → id.0 ≡ 0
first_one vars store id is index e =
    ap (λ (i : MonoId). i.0)
    (equal_indices store id (record { 0 = 0 }) is index.within (omega (arith, word_count-some store.limits)) (unnamed vars _ e ∙ sym (monomial_of-one store (record { 0 = 0 }) refl)))

module _ (s : Stored) (list : Indices) (i : ℕ) (same : list ≡ s.list.items) (within : i < length (stored_terms s)) where
  listed : i < length s.list.items
  listed = omega (arith, within, length-terms_of s.vars s.monos s.list.items)

  pub placed : i < length list
  placed = omega (arith, listed, ap length same)

  pub there : powers_at s.vars s.monos (item list i).0 ≡ (term_at (stored_terms s) i).0
  there =
      subst (λ (xs : Indices). powers_at s.vars s.monos (item xs i).0 ≡ (term_at (stored_terms s) i).0) (sym same)
      (sym (ap (λ (t : Powers × ℤ). t.0) (get_or-map (term_of s.vars s.monos) s.list.items i (record { 0 = 0 }, pos 0) ([], pos 0) listed)))

  pub index_there : IsShared s.vars s.monos s.list.items → IsIndex s.vars s.monos (item list i).0
  index_there h =
      subst (λ (xs : Indices). IsIndex s.vars s.monos (item xs i).0) (sym same)
      (AllKeys-at (IsIndex s.vars s.monos) s.list.items i (item s.list.items i) listed (get_or_any s.list.items i (record { 0 = 0 }, pos 0) (item s.list.items i) listed) h.indices)

pub bounds-list-i : goal.bounds-list-i
bounds-list-i c = placed c.args.self.now c.as_slice-list.result.now c.args.i c.as_slice-list.ensures.value c.requires.place

pub returns-clause-index : goal.returns-clause-index
returns-clause-index c = index_there c.args.self.now c.as_slice-list.result.now c.args.i c.as_slice-list.ensures.value c.requires.place c.requires.stored

pub returns-clause-monomial : goal.returns-clause-monomial
returns-clause-monomial c = there c.args.self.now c.as_slice-list.result.now c.args.i c.as_slice-list.ensures.value c.requires.place

pub returns-clause-one : goal.returns-clause-one
returns-clause-one c =
    let s = c.args.self.now in
    let id = (item c.as_slice-list.result.now c.args.i).0 in
    let at = there s c.as_slice-list.result.now c.args.i c.as_slice-list.ensures.value c.requires.place in
    let index = index_there s c.as_slice-list.result.now c.args.i c.as_slice-list.ensures.value c.requires.place c.requires.stored in
    (λ e. sym at ∙ one_first s.vars s.monos id e, λ e. first_one s.vars s.monos id c.one-one.ensures.valid index (at ∙ e))
