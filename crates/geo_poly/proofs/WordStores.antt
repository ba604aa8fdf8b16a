-- Lists of words as lists of indices, over the store of these words.
use Rattle.std.proofs.Common.{◌≡◌, ◌<◌, [], ◌∷◌, List, length, refl, sym, ap₂, subst, arith}
use Rattle.sparse_lists.specs.SparseLists.{AllKeys}
use Rattle.mono_store.specs.declared.links.MonoId.{MonoId}
use Rattle.mono_store.specs.Monomials.{Powers as NumberedPowers}
use Rattle.mono_store.specs.Stores.{monomial_of, store_of}
use Rattle.mono_store.specs.Words.{Limits, powers_of_word, word_count}
use Rattle.mono_store.proofs.Unfolding.{monomial_of-word}
use Rattle.geo_poly.specs.declared.variables.Var.{Var}
use Rattle.geo_poly.specs.Inner.Keyed.{IsIndexUnder, terms_under}
use Rattle.geo_poly.specs.Inner.Words.{word_keys}
use Rattle.geo_poly.specs.Polynomials.{Summands}
use Rattle.geo_poly.specs.Shared.{AllPlaces, Indices, IsIndex, named, terms_of}

module _ (vars : List Var) (limits : Limits) where
  -- a word is an index of that store, with the same monomial
  stands_for : (id : MonoId) → id.0 < word_count limits → monomial_of (store_of limits []) id ≡ powers_of_word limits id.0
  stands_for id within = monomial_of-word (store_of limits []) id within

  is_index : (id : MonoId) → IsIndexUnder vars (word_keys limits) id → IsIndex vars (store_of limits []) id
  is_index id h = record {
    within = (let below = h.within in omega (arith, below));
    places = subst (AllPlaces (length vars)) (sym (stands_for id h.within)) h.places;
  }

  pub word_indices : (list : Indices) → AllKeys (IsIndexUnder vars (word_keys limits)) list → AllKeys (IsIndex vars (store_of limits [])) list
  word_indices [] h = tt
  word_indices (t ∷ ts) h = (is_index t.0 h.0, word_indices ts h.1)

  pub word_terms : (list : Indices) → AllKeys (IsIndexUnder vars (word_keys limits)) list
      → terms_of vars (store_of limits []) list ≡ terms_under vars (word_keys limits) list
  word_terms [] h = refl
  word_terms (t ∷ ts) h =
      ap₂ (λ (m : NumberedPowers) (rest : Summands). (named vars m, t.1) ∷ rest) (stands_for t.0 (h.0.within)) (word_terms ts h.1)
