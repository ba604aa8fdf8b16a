-- Two rising lists of variables merged: what is written so far rises with what is left of each list, and has with it what the list has.
use Rattle.std.proofs.Common.{◌≡◌, ℕ, ◌+◌, ◌<◌, ◌≤◌, List, [], ◌∷◌, ◌++◌, inl, inr, length, get_or, drop, sym, ap, subst, ◌∙◌, append_assoc}
use Rattle.std.specs.Prelude.{◌⊎◌, Contains}
use Rattle.std.specs.List.Sorted.{IsStrictlySortedBy}
use Rattle.std.specs.declared.cmp.Ordering.TheVariants.{Less, Equal, Greater}
use Rattle.std.proofs.lemmas.List.{append-nil}
use Rattle.std.proofs.lemmas.List.Elements.{Contains-append_cases, Contains-append_left, Contains-append_right}
use Rattle.sparse_lists.proofs.Merging.{drop_at, drop_past, get_or_any}
use Rattle.geo_poly.specs.declared.variables.Var.{Var}
use Rattle.geo_poly.specs.declared.variables.Var.TheVariants.{R}
use Rattle.geo_poly.specs.Shared.{var_at}
use Rattle.geo_poly.specs.Variables.{var_cmp}
use Rattle.geo_poly.proofs.Orders.{var_order}
use Rattle.geo_poly.proofs.VariablesInOrder.{IsBelow, below_trans}

-- ORDER
below-append : (u : Var) (xs ys : List Var) → IsBelow u xs → IsBelow u ys → IsBelow u (xs ++ ys)
below-append u [] ys h g = g
below-append u (x ∷ xs) ys h g = (h.0, below-append u xs ys h.1 g)

below-left : (u : Var) (xs ys : List Var) → IsBelow u (xs ++ ys) → IsBelow u xs
below-left u [] ys h = tt
below-left u (x ∷ xs) ys h = (h.0, below-left u xs ys h.1)

below-right : (u : Var) (xs ys : List Var) → IsBelow u (xs ++ ys) → IsBelow u ys
below-right u [] ys h = h
below-right u (x ∷ xs) ys h = below-right u xs ys h.1

-- the first of one rest put before the other rest, whose first is later
put_before : (xs : List Var) (v w : Var) (vs ws : List Var) → var_cmp v w ≡ Less → IsStrictlySortedBy var_cmp (xs ++ v ∷ vs) → IsStrictlySortedBy var_cmp (xs ++ w ∷ ws)
    → IsStrictlySortedBy var_cmp ((xs ++ v ∷ []) ++ w ∷ ws)
unfolding IsStrictlySortedBy
put_before [] v w vs ws e h g = ((e, below_trans v w ws e g.0), g)
put_before (x ∷ xs) v w vs ws e h g =
    let first = below-right x xs (v ∷ vs) h.0 in
    (below-append x (xs ++ v ∷ []) (w ∷ ws) (below-append x xs (v ∷ []) (below-left x xs (v ∷ vs) h.0) (first.0, tt)) (below-right x xs (w ∷ ws) g.0), put_before xs v w vs ws e h.1 g.1)

-- MEMBERS
pub has_more : (xs ms ys : List Var) (u : Var) → Contains (xs ++ ys) u → Contains ((xs ++ ms) ++ ys) u
has_more xs ms ys u h = elim (Contains-append_cases xs ys u h) [
  | inl a ↦ Contains-append_left (xs ++ ms) ys u (Contains-append_left xs ms u a)
  | inr b ↦ Contains-append_right (xs ++ ms) ys u b
]

-- THE MERGE
-- what is written so far, and what is left of each list
pub record Merging (left right out : List Var) (i j : ℕ) : Type 0 where
  pub left_rises : IsStrictlySortedBy var_cmp (out ++ drop i left)
  pub right_rises : IsStrictlySortedBy var_cmp (out ++ drop j right)
  pub has_left : (u : Var) → Contains left u → Contains (out ++ drop i left) u
  pub has_right : (u : Var) → Contains right u → Contains (out ++ drop j right) u

pub Merging-start : (left right : List Var) → IsStrictlySortedBy var_cmp left → IsStrictlySortedBy var_cmp right → Merging left right [] 0 0
Merging-start left right h g = record {
  left_rises = h;
  right_rises = g;
  has_left = λ u c. c;
  has_right = λ u c. c;
}

Merging-swapped : (left right out : List Var) (i j : ℕ) → Merging left right out i j → Merging right left out j i
Merging-swapped left right out i j h = record {
  left_rises = h.right_rises;
  right_rises = h.left_rises;
  has_left = h.has_right;
  has_right = h.has_left;
}

at_itself : (vars : List Var) (i : ℕ) → i < length vars → var_at vars i ≡ get_or vars i (var_at vars i)
at_itself vars i h = get_or_any vars i (R (record { 0 = 0 }) (record { 0 = 0 }) (record { 0 = 0 }) (record { 0 = 0 })) (var_at vars i) h

module _ (left right out : List Var) (i j : ℕ) (left_in : i < length left) (right_in : j < length right) where
  abbrev v : Var
  v = var_at left i

  abbrev w : Var
  w = var_at right j

  left-is : drop i left ≡ v ∷ drop (i + 1) left
  left-is = drop_at left i v left_in (at_itself left i left_in)

  right-is : drop j right ≡ w ∷ drop (j + 1) right
  right-is = drop_at right j w right_in (at_itself right j right_in)

  pub Merging-less : var_cmp v w ≡ Less → Merging left right out i j → Merging left right (out ++ v ∷ []) (i + 1) j
  Merging-less e h =
      let rises = subst (λ (xs : List Var). IsStrictlySortedBy var_cmp (out ++ xs)) left-is h.left_rises in
      let joined = append_assoc out (v ∷ []) (drop (i + 1) left) in
      record {
        left_rises = subst (IsStrictlySortedBy var_cmp) (sym joined) rises;
        right_rises = subst (λ (xs : List Var). IsStrictlySortedBy var_cmp ((out ++ v ∷ []) ++ xs)) (sym right-is)
            (put_before out v w (drop (i + 1) left) (drop (j + 1) right) e rises (subst (λ (xs : List Var). IsStrictlySortedBy var_cmp (out ++ xs)) right-is h.right_rises));
        has_left = λ u c. subst (λ (xs : List Var). Contains xs u) (sym joined) (subst (λ (xs : List Var). Contains (out ++ xs) u) left-is (h.has_left u c));
        has_right = λ u c. has_more out (v ∷ []) (drop j right) u (h.has_right u c);
      }

  pub Merging-equal : var_cmp v w ≡ Equal → Merging left right out i j → Merging left right (out ++ v ∷ []) (i + 1) (j + 1)
  Merging-equal e h =
      let same = subst (λ (x : Var). drop j right ≡ x ∷ drop (j + 1) right) (sym (var_order.exact v w e)) right-is in
      let joined = append_assoc out (v ∷ []) (drop (i + 1) left) in
      let joined' = append_assoc out (v ∷ []) (drop (j + 1) right) in
      record {
        left_rises = subst (IsStrictlySortedBy var_cmp) (sym joined) (subst (λ (xs : List Var). IsStrictlySortedBy var_cmp (out ++ xs)) left-is h.left_rises);
        right_rises = subst (IsStrictlySortedBy var_cmp) (sym joined') (subst (λ (xs : List Var). IsStrictlySortedBy var_cmp (out ++ xs)) same h.right_rises);
        has_left = λ u c. subst (λ (xs : List Var). Contains xs u) (sym joined) (subst (λ (xs : List Var). Contains (out ++ xs) u) left-is (h.has_left u c));
        has_right = λ u c. subst (λ (xs : List Var). Contains xs u) (sym joined') (subst (λ (xs : List Var). Contains (out ++ xs) u) same (h.has_right u c));
      }

pub Merging-greater : (left right out : List Var) (i j : ℕ) → i < length left → j < length right → var_cmp (var_at left i) (var_at right j) ≡ Greater → Merging left right out i j
    → Merging left right (out ++ var_at right j ∷ []) i (j + 1)
Merging-greater left right out i j left_in right_in e h =
    Merging-swapped right left (out ++ var_at right j ∷ []) (j + 1) i
    (Merging-less right left out j i right_in left_in (var_order.flip_back (var_at left i) (var_at right j) e) (Merging-swapped left right out i j h))

-- the end, where one list has run out
pub merged_rises : (left right out : List Var) (i j : ℕ) → (length left ≤ i) ⊎ (length right ≤ j) → Merging left right out i j → IsStrictlySortedBy var_cmp ((out ++ drop i left) ++ drop j right)
merged_rises left right out i j past h = elim past [
  | inl p ↦ let none = drop_past left i p in
      subst (λ (xs : List Var). IsStrictlySortedBy var_cmp (xs ++ drop j right)) (sym (ap (λ (xs : List Var). out ++ xs) none ∙ append-nil out)) h.right_rises
  | inr p ↦ let none = drop_past right j p in
      subst (IsStrictlySortedBy var_cmp) (sym (ap (λ (xs : List Var). (out ++ drop i left) ++ xs) none ∙ append-nil (out ++ drop i left))) h.left_rises
]
