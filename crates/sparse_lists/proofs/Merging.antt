-- The steps of a loop that merges two canonical lists by their indices.
use Rattle.std.proofs.Common.{◌≡◌, ℕ, zero, suc, ◌+◌, ◌<◌, ◌≤◌, Bool, true, false, cond, List, [], ◌∷◌, ◌++◌, length, get_or, take, drop}
use Rattle.std.proofs.Common.{◌-◌, length-drop, refl, sym, ap, ap₂, subst, ◌∙◌, append_assoc, add-one, drop-cons, arith}
use Rattle.std.specs.declared.cmp.Ordering.{Ordering}
use Rattle.std.specs.declared.cmp.Ordering.TheVariants.{Less, Equal, Greater}
use Rattle.std.proofs.lemmas.List.{take_all}
use Rattle.sparse_lists.specs.SparseLists.{Amounts, put, IsCanonical, canonical, IsKeyOrder, IsAdditive}
use Rattle.sparse_lists.proofs.Canonical.{canonical_self, merge_less, merge_greater, merge_equal}

pub drop_at : {X : Type 0} (xs : List X) (i : ℕ) (x : X) → i < length xs → x ≡ get_or xs i x → drop i xs ≡ x ∷ drop (i + 1) xs
drop_at xs i x h e = drop-cons xs i x h ∙ ap₂ (λ y n. y ∷ drop n xs) (sym e) (sym (add-one i))

pub drop_past : {X : Type 0} (xs : List X) (i : ℕ) → length xs ≤ i → drop i xs ≡ []
drop_past [] zero h = refl
drop_past [] (suc i) h = refl
drop_past (x ∷ xs) zero h = absurd (omega arith)
drop_past (x ∷ xs) (suc i) h = drop_past xs i (omega arith)

pub get_or_any : {X : Type 0} (xs : List X) (i : ℕ) (d e : X) → i < length xs → get_or xs i d ≡ get_or xs i e
get_or_any [] i d e h = absurd (omega arith)
get_or_any (x ∷ xs) zero d e h = refl
get_or_any (x ∷ xs) (suc i) d e h = get_or_any xs i d e (omega arith)

pub take_rest : {X : Type 0} (xs : List X) (i : ℕ) → take (length xs - i) (drop i xs) ≡ drop i xs
take_rest xs i = take_all (length xs - i) (drop i xs) (omega (arith, length-drop i xs))

append_none : {X : Type 0} (xs : List X) → xs ++ [] ≡ xs
append_none [] = refl
append_none (x ∷ xs) = ap (λ ys. x ∷ ys) (append_none xs)

module _ {K V : Type 0} (cmp : K → K → Ordering) (A : Amounts V) (order : IsKeyOrder cmp) (adds : IsAdditive A) where
  pub IsCanonical-drop : (ts : List (K × V)) (i : ℕ) → IsCanonical cmp A ts → IsCanonical cmp A (drop i ts)
  IsCanonical-drop [] zero h = tt
  IsCanonical-drop [] (suc i) h = tt
  IsCanonical-drop (t ∷ ts) zero h = h
  IsCanonical-drop (t ∷ ts) (suc i) h = IsCanonical-drop ts i h.2

  pub IsCanonical-at : (ts : List (K × V)) (i : ℕ) (t : K × V) → i < length ts → t ≡ get_or ts i t → IsCanonical cmp A ts → IsCanonical cmp A (t ∷ drop (i + 1) ts)
  IsCanonical-at ts i t lt e h = subst (IsCanonical cmp A) (drop_at ts i t lt e) (IsCanonical-drop ts i h)

  module _ (ls rs : List (K × V)) (i j : ℕ) (t u : K × V) (left_in : i < length ls) (right_in : j < length rs) (t-is : t ≡ get_or ls i t)
      (u-is : u ≡ get_or rs j u) (left : IsCanonical cmp A ls) (right : IsCanonical cmp A rs) where
    pub step_less : cmp t.0 u.0 ≡ Less → canonical cmp A (drop i ls ++ drop j rs) ≡ t ∷ canonical cmp A (drop (i + 1) ls ++ drop j rs)
    step_less e =
        ap₂ (λ xs ys. canonical cmp A (xs ++ ys)) (drop_at ls i t left_in t-is) (drop_at rs j u right_in u-is)
        ∙ merge_less cmp A order adds t u (drop (i + 1) ls) (drop (j + 1) rs) (IsCanonical-at ls i t left_in t-is left) (IsCanonical-at rs j u right_in u-is right) e
        ∙ ap (λ ys. t ∷ canonical cmp A (drop (i + 1) ls ++ ys)) (sym (drop_at rs j u right_in u-is))

    pub step_greater : cmp t.0 u.0 ≡ Greater → canonical cmp A (drop i ls ++ drop j rs) ≡ u ∷ canonical cmp A (drop i ls ++ drop (j + 1) rs)
    step_greater e =
        ap₂ (λ xs ys. canonical cmp A (xs ++ ys)) (drop_at ls i t left_in t-is) (drop_at rs j u right_in u-is)
        ∙ merge_greater cmp A order adds t u (drop (i + 1) ls) (drop (j + 1) rs) (IsCanonical-at ls i t left_in t-is left) (IsCanonical-at rs j u right_in u-is right) e
        ∙ ap (λ xs. u ∷ canonical cmp A (xs ++ drop (j + 1) rs)) (sym (drop_at ls i t left_in t-is))

    pub step_equal : cmp t.0 u.0 ≡ Equal → canonical cmp A (drop i ls ++ drop j rs) ≡ put A t.0 (A.add t.1 u.1) (canonical cmp A (drop (i + 1) ls ++ drop (j + 1) rs))
    step_equal e =
        ap₂ (λ xs ys. canonical cmp A (xs ++ ys)) (drop_at ls i t left_in t-is) (drop_at rs j u right_in u-is)
        ∙ merge_equal cmp A order adds t u (drop (i + 1) ls) (drop (j + 1) rs) (IsCanonical-at ls i t left_in t-is left) (IsCanonical-at rs j u right_in u-is right) e

    -- the same, with what is written so far in front
    pub kept_less : (out goal : List (K × V)) → cmp t.0 u.0 ≡ Less → out ++ canonical cmp A (drop i ls ++ drop j rs) ≡ goal → (out ++ t ∷ []) ++ canonical cmp A (drop (i + 1) ls ++ drop j rs) ≡ goal
    kept_less out goal e kept =
        append_assoc out (t ∷ []) (canonical cmp A (drop (i + 1) ls ++ drop j rs)) ∙ ap (λ xs. out ++ xs) (sym (step_less e)) ∙ kept

    pub kept_greater : (out goal : List (K × V)) → cmp t.0 u.0 ≡ Greater → out ++ canonical cmp A (drop i ls ++ drop j rs) ≡ goal
        → (out ++ u ∷ []) ++ canonical cmp A (drop i ls ++ drop (j + 1) rs) ≡ goal
    kept_greater out goal e kept =
        append_assoc out (u ∷ []) (canonical cmp A (drop i ls ++ drop (j + 1) rs)) ∙ ap (λ xs. out ++ xs) (sym (step_greater e)) ∙ kept

    pub kept_equal : (out goal : List (K × V)) → cmp t.0 u.0 ≡ Equal → A.is_zero (A.add t.1 u.1) ≡ false
        → out ++ canonical cmp A (drop i ls ++ drop j rs) ≡ goal
        → (out ++ (t.0, A.add t.1 u.1) ∷ []) ++ canonical cmp A (drop (i + 1) ls ++ drop (j + 1) rs) ≡ goal
    kept_equal out goal e nonzero kept =
        let rest = canonical cmp A (drop (i + 1) ls ++ drop (j + 1) rs) in
        append_assoc out ((t.0, A.add t.1 u.1) ∷ []) rest
        ∙ ap (λ xs. out ++ xs) (ap (λ (b : Bool). cond b rest ((t.0, A.add t.1 u.1) ∷ rest)) (sym nonzero) ∙ sym (step_equal e)) ∙ kept

    pub kept_cancel : (out goal : List (K × V)) → cmp t.0 u.0 ≡ Equal → A.is_zero (A.add t.1 u.1) ≡ true
        → out ++ canonical cmp A (drop i ls ++ drop j rs) ≡ goal → out ++ canonical cmp A (drop (i + 1) ls ++ drop (j + 1) rs) ≡ goal
    kept_cancel out goal e is_zero kept =
        let rest = canonical cmp A (drop (i + 1) ls ++ drop (j + 1) rs) in
        ap (λ xs. out ++ xs) (ap (λ (b : Bool). cond b rest ((t.0, A.add t.1 u.1) ∷ rest)) (sym is_zero) ∙ sym (step_equal e)) ∙ kept

  -- where one list has run out, the other is what is left
  pub rest_left : (ls rs : List (K × V)) (i j : ℕ) → IsCanonical cmp A ls → length rs ≤ j → canonical cmp A (drop i ls ++ drop j rs) ≡ drop i ls ++ drop j rs
  rest_left ls rs i j left past =
      ap (λ ys. canonical cmp A (drop i ls ++ ys)) (drop_past rs j past) ∙ ap (canonical cmp A) (append_none (drop i ls))
      ∙ canonical_self cmp A order adds (drop i ls) (IsCanonical-drop ls i left)
      ∙ sym (append_none (drop i ls)) ∙ ap (λ ys. drop i ls ++ ys) (sym (drop_past rs j past))

  pub rest_right : (ls rs : List (K × V)) (i j : ℕ) → IsCanonical cmp A rs → length ls ≤ i → canonical cmp A (drop i ls ++ drop j rs) ≡ drop i ls ++ drop j rs
  rest_right ls rs i j right past =
      ap (λ xs. canonical cmp A (xs ++ drop j rs)) (drop_past ls i past)
      ∙ canonical_self cmp A order adds (drop j rs) (IsCanonical-drop rs j right)
      ∙ ap (λ xs. xs ++ drop j rs) (sym (drop_past ls i past))
