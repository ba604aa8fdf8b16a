-- Terms that are marked by their numbers.
use Rattle.std.proofs.Common.{◌≡◌, ℕ, zero, suc, ◌⊎◌, inl, inr, Bool, false, List, [], ◌∷◌, ◌++◌, get_or, replicate, slice_index_or, refl, sym, subst, ◌∙◌}
use Rattle.std.proofs.lemmas.Bool.{cases_eq}
use Rattle.geo_points.specs.declared.ids.TermId.{TermId}
use Rattle.geo_conditions.specs.Inner.ConditionLists.{IsMarked}

unmarked_room : (n i : ℕ) → get_or (replicate n false) i false ≡ false
unmarked_room zero i = refl
unmarked_room (suc n) zero = refl
unmarked_room (suc n) (suc i) = unmarked_room n i

-- room for more marks changes none
pub with_room : (marks : List Bool) (n i : ℕ) → get_or (marks ++ replicate n false) i false ≡ get_or marks i false
with_room [] n i = unmarked_room n i
with_room (b ∷ marks) n zero = refl
with_room (b ∷ marks) n (suc i) = with_room marks n i

-- what holds of the marked terms, and of one more, holds where that one is marked too
pub marked_more : (P : TermId → Type 0) (old new : List Bool) (e : TermId) → ((i : ℕ) → (i ≡ e.0 → ⊥) → slice_index_or new i false ≡ slice_index_or old i false)
    → ((t : TermId) → IsMarked old t → P t) → P e → (t : TermId) → IsMarked new t → P t
marked_more P old new e others all one t marked = by (cases_eq t.0 e.0)
  where
    by : (t.0 ≡ e.0) ⊎ (t.0 ≡ e.0 → ⊥) → P t
    by (inl same) = subst P (λ i. record { 0 = sym same i }) one
    by (inr apart) = all t (sym (others t.0 apart) ∙ marked)
