-- Two halves of a product by chains, one after the other in a store that grows.
use Rattle.std.proofs.Common.{◌≡◌, ℕ, zero, suc, ◌+◌, ◌^◌, ◌<◌, List, [], ◌∷◌, take, drop, sym, ap, ap₂, subst, ◌∙◌}
use Rattle.std.proofs.lemmas.List.{drop-map, take-map}
use Rattle.sparse_lists.specs.SparseLists.{AllKeys, IsCanonical}
use Rattle.poly_arena.specs.Chains.{Chains, pairs_of}
use Rattle.geo_poly.specs.declared.variables.Var.{Var}
use Rattle.geo_poly.specs.Chained.{AddsChain, StandsUnder, keyed_terms_under}
use Rattle.geo_poly.specs.Inner.Keyed.{AreInReach, IsIndexUnder, KeepsKeys, term_under, terms_under}
use Rattle.geo_poly.specs.Keys.{Keys}
use Rattle.sparse_lists.specs.Coefficients.{coefficients}
use Rattle.geo_poly.specs.Polynomials.{CanMultiply, Summands, norm_of, product_of, sum_of, term_cmp}
use Rattle.geo_poly.specs.Shared.{Indices}
use Rattle.geo_poly.proofs.ChainSteps.{StandsUnder-kept, live-differs}
use Rattle.geo_poly.proofs.ProductLaws.{CanMultiply-take, CanMultiply-drop, IsCanonical-product_of, halves_fit, product_of_halves}
use Rattle.geo_poly.proofs.InReach.{AreInReach-drop, AreInReach-kept, AreInReach-take}
use Rattle.geo_poly.proofs.KeysKept.{indices_under-kept, terms_under-kept}

pub AllKeys-take : {K V : Type 0} (P : K → Type 0) (n : ℕ) (ts : List (K × V)) → AllKeys P ts → AllKeys P (take n ts)
AllKeys-take P zero ts h = tt
AllKeys-take P (suc n) [] h = tt
AllKeys-take P (suc n) (t ∷ ts) h = (h.0, AllKeys-take P n ts h.1)

pub AllKeys-drop : {K V : Type 0} (P : K → Type 0) (n : ℕ) (ts : List (K × V)) → AllKeys P ts → AllKeys P (drop n ts)
AllKeys-drop P zero ts h = h
AllKeys-drop P (suc n) [] h = tt
AllKeys-drop P (suc n) (t ∷ ts) h = AllKeys-drop P n ts h.1

module _ (vars : List Var) (s0 : Keys) (left right : Indices) (n : ℕ) (front back : Indices) (front-is : front ≡ take n left) (back-is : back ≡ drop n left)
    (left_in : AllKeys (IsIndexUnder vars s0) left) (right_in : AllKeys (IsIndexUnder vars s0) right) (fits : CanMultiply (terms_under vars s0 left) (terms_under vars s0 right)) where
  abbrev p : Summands
  p = terms_under vars s0 left

  abbrev q : Summands
  q = terms_under vars s0 right

  pub front_in : AllKeys (IsIndexUnder vars s0) front
  front_in = subst (λ (xs : Indices). AllKeys (IsIndexUnder vars s0) xs) (sym front-is) (AllKeys-take (IsIndexUnder vars s0) n left left_in)

  back_in : AllKeys (IsIndexUnder vars s0) back
  back_in = subst (λ (xs : Indices). AllKeys (IsIndexUnder vars s0) xs) (sym back-is) (AllKeys-drop (IsIndexUnder vars s0) n left left_in)

  front_terms : terms_under vars s0 front ≡ take n p
  front_terms = ap (terms_under vars s0) front-is ∙ sym (take-map (term_under vars s0) n left)

  back_terms : terms_under vars s0 back ≡ drop n p
  back_terms = ap (terms_under vars s0) back-is ∙ sym (drop-map (term_under vars s0) n left)

  pub front_fits : CanMultiply (terms_under vars s0 front) (terms_under vars s0 right)
  front_fits = subst (λ (x : Summands). CanMultiply x q) (sym front_terms) (CanMultiply-take n p q fits)

  pub front_reach : AreInReach vars s0 (terms_under vars s0 left) (terms_under vars s0 right) → AreInReach vars s0 (terms_under vars s0 front) (terms_under vars s0 right)
  front_reach reach = subst (λ (x : Summands). AreInReach vars s0 x q) (sym front_terms) (AreInReach-take vars s0 p q reach n)

  module _ (s1 : Keys) (kept1 : KeepsKeys s0 s1) where
    pub back_later : AllKeys (IsIndexUnder vars s1) back
    back_later = indices_under-kept vars s0 s1 back kept1 back_in

    pub right_later : AllKeys (IsIndexUnder vars s1) right
    right_later = indices_under-kept vars s0 s1 right kept1 right_in

    back_same : terms_under vars s1 back ≡ drop n p
    back_same = terms_under-kept vars s0 s1 back kept1 back_in ∙ back_terms

    right_same : terms_under vars s1 right ≡ q
    right_same = terms_under-kept vars s0 s1 right kept1 right_in

    pub back_fits : CanMultiply (terms_under vars s1 back) (terms_under vars s1 right)
    back_fits =
        subst (λ (x : Summands). CanMultiply x (terms_under vars s1 right)) (sym back_same)
        (subst (λ (y : Summands). CanMultiply (drop n p) y) (sym right_same) (CanMultiply-drop n p q fits))

    pub back_reach : AreInReach vars s0 (terms_under vars s0 left) (terms_under vars s0 right)
        → AreInReach vars s1 (terms_under vars s1 back) (terms_under vars s1 right)
    back_reach reach =
        subst (λ (x : Summands). AreInReach vars s1 x (terms_under vars s1 right)) (sym back_same)
        (subst (λ (y : Summands). AreInReach vars s1 (drop n p) y) (sym right_same)
        (AreInReach-kept vars s0 s1 (drop n p) q kept1.limits (AreInReach-drop vars s0 p q reach n)))

    module _ (s2 : Keys) (kept2 : KeepsKeys s1 s2) (a1 a2 : Chains) (sum rest : ℕ) (first : StandsUnder vars s1 a1 sum (product_of (terms_under vars s0 front) (terms_under vars s0 right)))
        (adds : AddsChain a1 a2 rest) (second : StandsUnder vars s2 a2 rest (product_of (terms_under vars s1 back) (terms_under vars s1 right))) where
      pub stands_first : StandsUnder vars s2 a2 sum (product_of (take n p) q)
      stands_first =
          subst (λ (x : Summands). StandsUnder vars s2 a2 sum (product_of x q)) front_terms
          (StandsUnder-kept vars s1 s2 a1 a2 sum (product_of (terms_under vars s0 front) q) kept2 (adds.others sum (live-differs a1 sum rest first.live adds.unused)) first)

      pub stands_second : StandsUnder vars s2 a2 rest (product_of (drop n p) q)
      stands_second =
          subst (λ (x : Summands). StandsUnder vars s2 a2 rest (product_of x q)) back_same
          (subst (λ (y : Summands). StandsUnder vars s2 a2 rest (product_of (terms_under vars s1 back) y)) right_same second)

      pub first_order : IsCanonical term_cmp coefficients (keyed_terms_under vars s2 (pairs_of a2 sum))
      first_order = subst (λ (x : Summands). IsCanonical term_cmp coefficients x) (sym stands_first.terms) (IsCanonical-product_of (take n p) q)

      pub second_order : IsCanonical term_cmp coefficients (keyed_terms_under vars s2 (pairs_of a2 rest))
      second_order = subst (λ (x : Summands). IsCanonical term_cmp coefficients x) (sym stands_second.terms) (IsCanonical-product_of (drop n p) q)

      pub norms_fit : norm_of (keyed_terms_under vars s2 (pairs_of a2 sum)) + norm_of (keyed_terms_under vars s2 (pairs_of a2 rest)) < 2 ^ 127
      norms_fit =
          subst (λ (x : Summands). norm_of x + norm_of (keyed_terms_under vars s2 (pairs_of a2 rest)) < 2 ^ 127) (sym stands_first.terms)
          (subst (λ (y : Summands). norm_of (product_of (take n p) q) + norm_of y < 2 ^ 127) (sym stands_second.terms) (halves_fit n p q fits))

      pub whole : sum_of (keyed_terms_under vars s2 (pairs_of a2 sum)) (keyed_terms_under vars s2 (pairs_of a2 rest)) ≡ product_of p q
      whole = ap₂ sum_of stands_first.terms stands_second.terms ∙ product_of_halves n p q
