-- A product that is put before a chain of products, or behind a list of them.
use Rattle.std.proofs.Common.{◌≡◌, ℕ, ◌+◌, ◌*◌, ◌^◌, ◌<◌, ◌≤◌, ℤ, pos, ◌*ℤ◌, List, [], ◌∷◌, ◌++◌, take, drop, get_or, length, unsigned_abs, FitsSigned, sym, ap, ap₂, subst, ◌∙◌, arith}
use Rattle.std.specs.Int.{w128}
use Rattle.std.specs.List.Sorted.{IsStrictlySortedBy}
use Rattle.std.proofs.lemmas.List.{get_or-map, length-map, map-append}
use Rattle.sparse_lists.specs.SparseLists.{AllKeys}
use Rattle.sparse_lists.proofs.Merging.{drop_at, get_or_any}
use Rattle.sparse_lists.proofs.Sums.{AllKeys-append, AllKeys-at}
use Rattle.mono_store.specs.declared.links.MonoId.{MonoId}
use Rattle.mono_store.specs.Monomials.{Powers as NumberedPowers, degree_of as numbered_degree, product as numbered_product}
use Rattle.sparse_lists.specs.Coefficients.{Pairs}
use Rattle.geo_poly.specs.declared.variables.Var.{Var}
use Rattle.geo_poly.specs.Chained.{keyed_terms_under}
use Rattle.geo_poly.specs.Inner.Keyed.{AreInReach, IsInReach, IsIndexUnder, KeepsKeys, term_under, terms_under}
use Rattle.geo_poly.specs.Keys.{IsKeyUnder, Keys}
use Rattle.geo_poly.specs.Monomials.{Powers, degree_of, product}
use Rattle.geo_poly.specs.Polynomials.{CanMultiply, Summands, multiples, norm_of}
use Rattle.geo_poly.specs.Shared.{AllPlaces, Indices, named}
use Rattle.geo_poly.specs.Variables.{var_cmp}
use Rattle.geo_poly.proofs.InReach.{IsInReach-kept, exponent_at-le, in_reach}
use Rattle.geo_poly.proofs.KeyedChains.{keyed_terms-kept, keys-kept}
use Rattle.geo_poly.proofs.KeysKept.{IsKeyUnder-kept, indices_under-kept, terms_under-kept}
use Rattle.geo_poly.proofs.Naming.{degree_of-named, places-product, product-named}
use Rattle.geo_poly.proofs.ProductLaws.{degree_at-le, times_fits}
use Rattle.geo_poly.proofs.Told.{item, take_more}

module _ (vars : List Var) (s0 : Keys) (t : MonoId × ℤ) (list : Indices) (i : ℕ) (below : i < length list) (t_in : IsIndexUnder vars s0 t.0) (list_in : AllKeys (IsIndexUnder vars s0) list)
    (fits : CanMultiply (term_under vars s0 t ∷ []) (terms_under vars s0 list)) where
  abbrev u : MonoId × ℤ
  u = item list i

  at : u ≡ get_or list i u
  at = get_or_any list i (record { 0 = 0 }, pos 0) u below

  u_in : IsIndexUnder vars s0 u.0
  u_in = AllKeys-at (IsIndexUnder vars s0) list i u below at list_in

  term_at_place : term_under vars s0 u ≡ get_or (terms_under vars s0 list) i (term_under vars s0 u)
  term_at_place = ap (term_under vars s0) at ∙ sym (get_or-map (term_under vars s0) list i u (term_under vars s0 u) below)

  terms_below : i < length (terms_under vars s0 list)
  terms_below = omega (arith, length-map {B = Powers × ℤ} list (term_under vars s0))

  pub product_fits : FitsSigned w128 (t.1 *ℤ (item list i).1)
  product_fits =
      let one : norm_of (term_under vars s0 t ∷ []) ≡ unsigned_abs t.1 = omega arith in
      times_fits (term_under vars s0 t) (terms_under vars s0 list) i (term_under vars s0 u) terms_below term_at_place
      (subst (λ n. n * norm_of (terms_under vars s0 list) < 2 ^ 127) one fits.norm_fits)

  module _ (rising : IsStrictlySortedBy var_cmp vars) (s : Keys) (kept : KeepsKeys s0 s) where
    t_now : IsIndexUnder vars s t.0
    t_now = IsKeyUnder-kept vars s0 s t.0.0 kept t_in

    pub u_now : IsIndexUnder vars s (item list i).0
    u_now = IsKeyUnder-kept vars s0 s u.0.0 kept u_in

    pub degrees_fit : numbered_degree (s.powers t.0.0) + numbered_degree (s.powers (item list i).0.0) ≤ 65535
    degrees_fit =
        let first : numbered_degree (s.powers t.0.0) ≡ degree_of (named vars (s0.powers t.0.0)) =
        ap numbered_degree (kept.powers t.0.0 t_in.within) ∙ sym (degree_of-named vars (s0.powers t.0.0)) in
        let second : numbered_degree (s.powers u.0.0) ≡ degree_of (named vars (s0.powers u.0.0)) =
        ap numbered_degree (kept.powers u.0.0 u_in.within) ∙ sym (degree_of-named vars (s0.powers u.0.0)) in
        omega (arith, first, second, degree_at-le (terms_under vars s0 list) i (term_under vars s0 u) terms_below term_at_place, fits.degree_fits)

    pub reaches : AreInReach vars s0 (term_under vars s0 t ∷ []) (terms_under vars s0 list) → IsInReach s (s.powers t.0.0) (s.powers (item list i).0.0)
    reaches reach =
        let before : IsInReach s0 (s0.powers t.0.0) (s0.powers u.0.0) =
        in_reach vars s0 (term_under vars s0 t ∷ []) (terms_under vars s0 list) reach rising (s0.powers t.0.0) (s0.powers u.0.0) t_in.places u_in.places
        (λ v. omega arith)
        (λ v. exponent_at-le v (terms_under vars s0 list) i (term_under vars s0 u) terms_below term_at_place) in
        IsInReach-kept s0 s (s.powers t.0.0) (s.powers u.0.0) kept.limits
        (subst (λ (m : NumberedPowers). IsInReach s0 m (s.powers u.0.0)) (sym (kept.powers t.0.0 t_in.within))
        (subst (λ (n : NumberedPowers). IsInReach s0 (s0.powers t.0.0) n) (sym (kept.powers u.0.0 u_in.within)) before))

    module _ (new : Keys) (kept2 : KeepsKeys s new) (k : ℕ) (within : k < new.count) (k-is : new.powers k ≡ numbered_product (s.powers t.0.0) (s.powers (item list i).0.0)) where
      pub product_index : IsKeyUnder vars new k
      product_index = record {
        within = within;
        places = subst (AllPlaces (length vars)) (sym k-is) (places-product vars rising (s.powers t.0.0) (s.powers u.0.0) t_now.places u_now.places);
      }

      pub product_powers : named vars (new.powers k) ≡ product (named vars (s0.powers t.0.0)) (named vars (s0.powers (item list i).0.0))
      product_powers =
          ap (named vars) k-is ∙ sym (product-named vars rising (s.powers t.0.0) (s.powers u.0.0) t_now.places u_now.places)
          ∙ ap₂ product (ap (named vars) (kept.powers t.0.0 t_in.within)) (ap (named vars) (kept.powers u.0.0 u_in.within))

      module _ (z : ℤ) (z-is : z ≡ t.1 *ℤ (item list i).1) where
        module _ (ps : Pairs) (rest : ℕ) (rest-is : rest ≡ i + 1) (keys : AllKeys (IsKeyUnder vars s) ps)
            (stands : keyed_terms_under vars s ps ≡ multiples (term_under vars s0 t) (drop rest (terms_under vars s0 list))) where
          pub next_keys : AllKeys (IsKeyUnder vars new) ((k, z) ∷ ps)
          next_keys = (product_index, keys-kept vars s new ps kept2 keys)

          pub next_terms : keyed_terms_under vars new ((k, z) ∷ ps) ≡ multiples (term_under vars s0 t) (drop i (terms_under vars s0 list))
          next_terms =
              ap₂ (λ (m : Powers) (c : ℤ). (m, c) ∷ keyed_terms_under vars new ps) product_powers z-is
              ∙ ap (λ (ts : Summands). (product (named vars (s0.powers t.0.0)) (named vars (s0.powers u.0.0)), t.1 *ℤ u.1) ∷ ts)
              (keyed_terms-kept vars s new ps kept2 keys ∙ stands ∙ ap (λ n. multiples (term_under vars s0 t) (drop n (terms_under vars s0 list))) rest-is)
              ∙ ap (multiples (term_under vars s0 t)) (sym (drop_at (terms_under vars s0 list) i (term_under vars s0 u) terms_below term_at_place))

        -- a list that grows at its end
        module _ (list2 : Indices) (indices : AllKeys (IsIndexUnder vars s) list2)
            (stands : terms_under vars s list2 ≡ multiples (term_under vars s0 t) (take i (terms_under vars s0 list))) where
          pub more_indices : AllKeys (IsIndexUnder vars new) (list2 ++ (record { 0 = k }, z) ∷ [])
          more_indices = AllKeys-append (IsIndexUnder vars new) list2 _ (indices_under-kept vars s new list2 kept2 indices) (product_index, tt)

          pub more_terms : terms_under vars new (list2 ++ (record { 0 = k }, z) ∷ []) ≡ multiples (term_under vars s0 t) (take (i + 1) (terms_under vars s0 list))
          more_terms =
              map-append (term_under vars new) list2 _
              ∙ ap₂ (λ (ts : Summands) (p : Powers × ℤ). ts ++ p ∷ [])
              (terms_under-kept vars s new list2 kept2 indices ∙ stands) (ap₂ (λ (m : Powers) (c : ℤ). (m, c)) product_powers z-is)
              ∙ sym (map-append (λ (v : Powers × ℤ). (product (named vars (s0.powers t.0.0)) v.0, t.1 *ℤ v.1)) (take i (terms_under vars s0 list)) (term_under vars s0 u ∷ []))
              ∙ ap (multiples (term_under vars s0 t)) (sym (take_more (terms_under vars s0 list) i (term_under vars s0 u) terms_below term_at_place))
