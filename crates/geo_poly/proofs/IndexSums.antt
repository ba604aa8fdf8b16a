-- Sums of polynomials over one store, entry by entry.
use Rattle.std.proofs.Common.{◌≡◌, ℕ, zero, suc, ◌+◌, ◌^◌, ◌<◌, ◌≤◌, eqb, true, false, ℤ, pos, ◌+ℤ◌, ◌-ℤ◌, neg_ℤ, List, [], ◌∷◌, ◌++◌, drop}
use Rattle.std.proofs.Common.{take, length, get_or, sym, ap, ap₂, subst, ◌∙◌, append_assoc, unsigned_abs, FitsSigned, to_z, of_z, arith}
use Rattle.std.specs.Int.{w128}
use Rattle.std.specs.List.Sorted.{IsStrictlySortedBy}
use Rattle.std.specs.declared.cmp.Ordering.{Ordering}
use Rattle.std.specs.declared.cmp.Ordering.TheVariants.{Less, Equal, Greater}
use Rattle.std.proofs.lemmas.Int.{fits_signed_from_abs, ints, to_z-of_z}
use Rattle.std.proofs.lemmas.List.{drop-map, get_or-map, map-append}
use Rattle.std.proofs.lemmas.List.Sums.{get_or-le-sum_by}
use Rattle.sparse_lists.specs.SparseLists.{AllKeys, IsCanonical, canonical}
use Rattle.sparse_lists.proofs.Sums.{AllKeys-append, AllKeys-at}
use Rattle.sparse_lists.proofs.Merging.{get_or_any, kept_cancel, kept_equal, kept_greater, kept_less}
use Rattle.mono_store.specs.declared.links.MonoId.{MonoId}
use Rattle.mono_store.specs.Monomials.{monomial_cmp as numbered_cmp}
use Rattle.mono_store.specs.Stores.{Keeps, Store, monomial_of}
use Rattle.geo_poly.specs.declared.variables.Var.{Var}
use Rattle.geo_poly.specs.Monomials.{Powers}
use Rattle.sparse_lists.specs.Coefficients.{coefficients}
use Rattle.geo_poly.specs.Polynomials.{Summands, negated, norm_of, sum_of, term_cmp}
use Rattle.geo_poly.specs.Shared.{Indices, IsIndex, powers_at, term_of, terms_of}
use Rattle.geo_poly.specs.Variables.{var_cmp}
use Rattle.geo_poly.proofs.Naming.{cmp-named}
use Rattle.geo_poly.proofs.Orders.{term_order}
use Rattle.sparse_lists.proofs.Coefficients.{coefficients_add}
use Rattle.geo_poly.proofs.PolynomialLaws.{FitsSum, fits_at}
use Rattle.geo_poly.proofs.Told.{item, length-terms_of, take_more, terms_of-kept}

pub AllKeys-drop : {K V : Type 0} (P : K → Type 0) (i : ℕ) (ts : List (K × V)) → AllKeys P ts → AllKeys P (drop i ts)
AllKeys-drop P zero ts h = h
AllKeys-drop P (suc i) [] h = h
AllKeys-drop P (suc i) (t ∷ ts) h = AllKeys-drop P i ts h.1

module _ (vars : List Var) (store : Store) where
  module _ (list : Indices) (i : ℕ) (within : i < length list) where
    pub list_within : i < length (terms_of vars store list)
    list_within = omega (arith, within, length-terms_of vars store list)

    at : item list i ≡ get_or list i (item list i)
    at = get_or_any list i (record { 0 = 0 }, pos 0) (item list i) within

    -- the term of an entry stands at its place
    pub list_is : term_of vars store (item list i) ≡ get_or (terms_of vars store list) i (term_of vars store (item list i))
    list_is = ap (term_of vars store) at ∙ sym (get_or-map (term_of vars store) list i (item list i) (term_of vars store (item list i)) within)

    pub list_index : AllKeys (IsIndex vars store) list → IsIndex vars store (item list i).0
    list_index h = AllKeys-at (IsIndex vars store) list i (item list i) within at h

    pub list_small : norm_of (terms_of vars store list) < 2 ^ 127 → unsigned_abs (item list i).1 < 2 ^ 127
    list_small fits =
        let size : Powers × ℤ → ℕ = λ t. unsigned_abs t.1 in
        let le : unsigned_abs (item list i).1 ≤ norm_of (terms_of vars store list) =
        subst (λ (x : Powers × ℤ). size x ≤ norm_of (terms_of vars store list)) (sym list_is) (get_or-le-sum_by size (terms_of vars store list) i (term_of vars store (item list i)) list_within) in
        omega (arith, le, fits)

    pub list_fits : norm_of (terms_of vars store list) < 2 ^ 127 → FitsSigned w128 (item list i).1
    list_fits fits = fits_signed_from_abs w128 (item list i).1 (list_small fits)

  -- the order of two entries is that of their terms
  pub order_is : IsStrictlySortedBy var_cmp vars → (t u : MonoId) (o : Ordering) → IsIndex vars store t → IsIndex vars store u
      → numbered_cmp (monomial_of store u) (monomial_of store t) ≡ o → term_cmp (powers_at vars store t) (powers_at vars store u) ≡ o
  order_is rising t u o h g e = cmp-named vars rising (monomial_of store u) (monomial_of store t) g.places h.places ∙ e

  -- entries behind others
  pub terms-append : (xs ys : Indices) → terms_of vars store (xs ++ ys) ≡ terms_of vars store xs ++ terms_of vars store ys
  terms-append xs ys = map-append (term_of vars store) xs ys

  pub terms-drop : (i : ℕ) (xs : Indices) → terms_of vars store (drop i xs) ≡ drop i (terms_of vars store xs)
  terms-drop i xs = sym (drop-map (term_of vars store) i xs)

-- A STEP OF A MERGE
module _ (vars : List Var) (store : Store) (left right : Indices) (i j : ℕ) (i_in : i < length left) (j_in : j < length right)
    (left_indices : AllKeys (IsIndex vars store) left) (right_indices : AllKeys (IsIndex vars store) right) where
  abbrev p : Summands
  p = terms_of vars store left

  abbrev q : Summands
  q = terms_of vars store right

  abbrev t : Powers × ℤ
  t = term_of vars store (item left i)

  abbrev u : Powers × ℤ
  u = term_of vars store (item right j)

  pub fitting : norm_of (terms_of vars store left) + norm_of (terms_of vars store right) < 2 ^ 127 → FitsSum (item left i).1 (item right j).1
  fitting fits = fits_at p q i j t u (list_within vars store left i i_in) (list_within vars store right j j_in) (list_is vars store left i i_in) (list_is vars store right j j_in) fits

  module _ (rising : IsStrictlySortedBy var_cmp vars) (left_order : IsCanonical term_cmp coefficients (terms_of vars store left))
      (right_order : IsCanonical term_cmp coefficients (terms_of vars store right))
      (list : Indices) (indices : AllKeys (IsIndex vars store) list)
      (kept : terms_of vars store list ++ canonical term_cmp coefficients
      (drop i (terms_of vars store left) ++ drop j (terms_of vars store right)) ≡ sum_of (terms_of vars store left)
      (terms_of vars store right)) where
    ordered : (o : Ordering) → numbered_cmp (monomial_of store (item right j).0) (monomial_of store (item left i).0) ≡ o → term_cmp t.0 u.0 ≡ o
    ordered o e = order_is vars store rising (item left i).0 (item right j).0 o (list_index vars store left i i_in left_indices) (list_index vars store right j j_in right_indices) e

    -- one entry more, at the places where the merge is then
    abbrev pub Goes : Indices → ℕ → ℕ → Type 0
    Goes next k l =
        (AllKeys (IsIndex vars store) next)
        × (terms_of vars store next ++ canonical term_cmp coefficients
        (drop k (terms_of vars store left) ++ drop l (terms_of vars store right)) ≡ sum_of (terms_of vars store left)
        (terms_of vars store right))

    pub goes_less : numbered_cmp (monomial_of store (item right j).0) (monomial_of store (item left i).0) ≡ Less → Goes (list ++ item left i ∷ []) (i + 1) j
    goes_less e = (
      AllKeys-append (IsIndex vars store) list (item left i ∷ []) indices (list_index vars store left i i_in left_indices, tt),
      ap (λ (ts : Summands). ts ++ canonical term_cmp coefficients (drop (i + 1) p ++ drop j q)) (terms-append vars store list (item left i ∷ []))
          ∙ kept_less term_cmp coefficients term_order coefficients_add p q i j t u (list_within vars store left i i_in) (list_within vars store right j j_in)
          (list_is vars store left i i_in) (list_is vars store right j j_in) left_order right_order (terms_of vars store list) (sum_of p q) (ordered Less e) kept,
    )

    pub goes_greater : numbered_cmp (monomial_of store (item right j).0) (monomial_of store (item left i).0) ≡ Greater → Goes (list ++ item right j ∷ []) i (j + 1)
    goes_greater e = (
      AllKeys-append (IsIndex vars store) list (item right j ∷ []) indices (list_index vars store right j j_in right_indices, tt),
      ap (λ (ts : Summands). ts ++ canonical term_cmp coefficients (drop i p ++ drop (j + 1) q)) (terms-append vars store list (item right j ∷ []))
          ∙ kept_greater term_cmp coefficients term_order coefficients_add p q i j t u (list_within vars store left i i_in) (list_within vars store right j j_in)
          (list_is vars store left i i_in) (list_is vars store right j j_in) left_order right_order (terms_of vars store list) (sum_of p q) (ordered Greater e) kept,
    )

    pub goes_equal : (z : ℤ) → z ≡ (item left i).1 +ℤ (item right j).1 → eqb (unsigned_abs ((item left i).1 +ℤ (item right j).1)) 0 ≡ false
        → numbered_cmp (monomial_of store (item right j).0) (monomial_of store (item left i).0) ≡ Equal → Goes (list ++ ((item left i).0, z) ∷ []) (i + 1) (j + 1)
    goes_equal z is nonzero e = (
      AllKeys-append (IsIndex vars store) list (((item left i).0, z) ∷ []) indices (list_index vars store left i i_in left_indices, tt),
      ap (λ (ts : Summands). ts ++ canonical term_cmp coefficients (drop (i + 1) p ++ drop (j + 1) q))
          (terms-append vars store list (((item left i).0, z) ∷ []) ∙ ap (λ (k : ℤ). terms_of vars store list ++ (t.0, k) ∷ []) is)
          ∙ kept_equal term_cmp coefficients term_order coefficients_add p q i j t u (list_within vars store left i i_in) (list_within vars store right j j_in)
          (list_is vars store left i i_in) (list_is vars store right j j_in) left_order right_order (terms_of vars store list) (sum_of p q) (ordered Equal e) nonzero kept,
    )

    pub goes_cancel : eqb (unsigned_abs ((item left i).1 +ℤ (item right j).1)) 0 ≡ true
        → numbered_cmp (monomial_of store (item right j).0) (monomial_of store (item left i).0) ≡ Equal → Goes list (i + 1) (j + 1)
    goes_cancel none e = (
      indices,
      kept_cancel term_cmp coefficients term_order coefficients_add p q i j t u (list_within vars store left i i_in) (list_within vars store right j j_in)
          (list_is vars store left i i_in) (list_is vars store right j j_in) left_order right_order (terms_of vars store list) (sum_of p q) (ordered Equal e) none kept,
    )

-- what is left of both goes behind
pub ends : (vars : List Var) (store : Store) (left right list : Indices) (i j : ℕ)
    → canonical term_cmp coefficients (drop i (terms_of vars store left) ++ drop j (terms_of vars store right)) ≡ drop i (terms_of vars store left) ++ drop j (terms_of vars store right)
    → terms_of vars store list ++ canonical term_cmp coefficients
    (drop i (terms_of vars store left) ++ drop j (terms_of vars store right)) ≡ sum_of (terms_of vars store left)
    (terms_of vars store right)
    → terms_of vars store ((list ++ drop i left) ++ drop j right) ≡ sum_of (terms_of vars store left) (terms_of vars store right)
ends vars store left right list i j rest kept =
    terms-append vars store (list ++ drop i left) (drop j right)
    ∙ ap₂ (λ (xs ys : Summands). xs ++ ys)
    (terms-append vars store list (drop i left) ∙ ap (λ (ys : Summands). terms_of vars store list ++ ys) (terms-drop vars store i left))
    (terms-drop vars store j right)
    ∙ append_assoc (terms_of vars store list) (drop i (terms_of vars store left)) (drop j (terms_of vars store right))
    ∙ ap (λ (xs : Summands). terms_of vars store list ++ xs) (sym rest) ∙ kept

-- THE OTHER SIGN
pub negation_fits : (x : ℤ) → FitsSigned w128 x → unsigned_abs x < 2 ^ 127 → FitsSigned w128 (pos 0 -ℤ to_z w128 (of_z w128 x))
negation_fits x fits small =
    subst (λ (y : ℤ). FitsSigned w128 (pos 0 -ℤ y)) (sym (to_z-of_z w128 x fits)) (fits_signed_from_abs w128 (pos 0 -ℤ x) (omega (arith, ints, small)))

pub negated-more : (p : Summands) (i : ℕ) (t : Powers × ℤ) → i < length p → t ≡ get_or p i t → negated (take (i + 1) p) ≡ negated (take i p) ++ (t.0, neg_ℤ t.1) ∷ []
negated-more p i t within is = ap negated (take_more p i t within is) ∙ map-append (λ (s : Powers × ℤ). (s.0, neg_ℤ s.1)) (take i p) (t ∷ [])

-- a list in a store that has grown
pub in_grown : (vars : List Var) (old new : Store) (list slice : Indices) (q : Summands) → slice ≡ list → Keeps old new
    → AllKeys (IsIndex vars old) list → terms_of vars old list ≡ q → terms_of vars new slice ≡ q
in_grown vars old new list slice q e kept indices is = ap (terms_of vars new) e ∙ terms_of-kept vars old new list kept indices ∙ is
