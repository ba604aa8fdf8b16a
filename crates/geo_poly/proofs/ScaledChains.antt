-- A chain that is multiplied by one term in its place, where keys are added up.
use Rattle.std.proofs.Common.{◌≡◌, ℕ, ◌+◌, ◌*◌, ◌^◌, ◌<◌, ◌≤◌, ℤ, ◌*ℤ◌, unsigned_abs, length, [], ◌∷◌, List, refl, sym, ap, ap₂, subst, ◌∙◌, arith}
use Rattle.std.specs.List.Sorted.{IsStrictlySortedBy}
use Rattle.std.proofs.lemmas.Int.{unsigned_abs-mul}
use Rattle.std.proofs.lemmas.List.Sums.{sum_by-cons}
use native.Mathlib.Nat.{mul-le-mul}
use Rattle.sparse_lists.specs.SparseLists.{AllKeys}
use Rattle.mono_store.specs.declared.links.MonoId.{MonoId}
use Rattle.mono_store.specs.Monomials.{product as numbered_product}
use Rattle.sparse_lists.specs.Coefficients.{Pairs, scaled}
use Rattle.poly_arena.specs.Chains.{CanScale}
use Rattle.geo_poly.specs.declared.variables.Var.{Var}
use Rattle.geo_poly.specs.Chained.{keyed_term_under, keyed_terms_under}
use Rattle.geo_poly.specs.Inner.Keyed.{AddsUp, AreInReach, IsIndexUnder, greatest_exponent, term_under}
use Rattle.geo_poly.specs.Keys.{IsKeyUnder, Keys}
use Rattle.geo_poly.specs.Monomials.{Powers, exponent, product}
use Rattle.geo_poly.specs.Polynomials.{CanMultiply, Summands, multiples, norm_of, product_of}
use Rattle.geo_poly.specs.Shared.{AllPlaces, named}
use Rattle.geo_poly.specs.Variables.{var_cmp}
use Rattle.geo_poly.proofs.InReach.{AreInReach-flip, in_reach}
use Rattle.geo_poly.proofs.LoneTerms.{CanMultiply-flip}
use Rattle.geo_poly.proofs.Naming.{places-product, product-named}
use Rattle.geo_poly.proofs.ProductLaws.{product_of_one}
use Rattle.geo_poly.proofs.ProductOrder.{product_of_comm}

module _ (vars : List Var) (rising : IsStrictlySortedBy var_cmp vars) (ks : Keys) (adds : AddsUp ks) (t : MonoId × ℤ) (t_in : IsIndexUnder vars ks t.0) where
  abbrev terms : Pairs → Summands
  terms ps = keyed_terms_under vars ks ps

  abbrev one : Summands
  one = term_under vars ks t ∷ []

  module _ (q : Summands) (reach : AreInReach vars ks one q) where
    -- no exponent is above the greatest of q
    abbrev IsWithin : Pairs → Type 0
    IsWithin ps = (v : Var) → greatest_exponent v (terms ps) ≤ greatest_exponent v q

    module _ (p : ℕ × ℤ) (p_in : IsKeyUnder vars ks p.0) (le : (v : Var) → exponent v (named vars (ks.powers p.0)) ≤ greatest_exponent v q) where
      sums : (t.0.0 + p.0 < ks.count) × (ks.powers (t.0.0 + p.0) ≡ numbered_product (ks.powers t.0.0) (ks.powers p.0))
      sums =
          adds.sums t.0.0 p.0 t_in.within p_in.within
          (in_reach vars ks one q reach rising (ks.powers t.0.0) (ks.powers p.0) t_in.places p_in.places (λ v. omega arith) le)

      is_key : IsKeyUnder vars ks (t.0.0 + p.0)
      is_key = record {
        within = sums.0;
        places = subst (AllPlaces (length vars)) (sym sums.1) (places-product vars rising (ks.powers t.0.0) (ks.powers p.0) t_in.places p_in.places);
      }

      named-is : named vars (ks.powers (t.0.0 + p.0)) ≡ product (named vars (ks.powers t.0.0)) (named vars (ks.powers p.0))
      named-is = ap (named vars) sums.1 ∙ sym (product-named vars rising (ks.powers t.0.0) (ks.powers p.0) t_in.places p_in.places)

    can_scale : (ps : Pairs) → AllKeys (IsKeyUnder vars ks) ps → IsWithin ps → norm_of (terms ps) ≤ norm_of q → unsigned_abs t.1 * norm_of q < 2 ^ 127
        → CanScale t.0.0 t.1 ps
    can_scale [] h le size fits = tt
    can_scale (p ∷ ps) h le size fits =
        let sizes : norm_of (terms (p ∷ ps)) ≡ unsigned_abs p.1 + norm_of (terms ps) =
        sum_by-cons (λ (u : Powers × ℤ). unsigned_abs u.1) (keyed_term_under vars ks p) (terms ps) in
        let same : unsigned_abs t.1 ≤ unsigned_abs t.1 = omega arith in
        let here : unsigned_abs p.1 ≤ norm_of q = omega (arith, sizes, size) in (
          omega (arith, adds.few, (sums p h.0 (λ v. omega (arith, le v))).0),
          omega (arith, unsigned_abs-mul t.1 p.1, mul-le-mul same here, fits),
          can_scale ps h.1 (λ v. omega (arith, le v)) (omega (arith, sizes, size)) fits,
        )

    keys-scaled : (ps : Pairs) → AllKeys (IsKeyUnder vars ks) ps → IsWithin ps → AllKeys (IsKeyUnder vars ks) (scaled t.0.0 t.1 ps)
    keys-scaled [] h le = tt
    keys-scaled (p ∷ ps) h le = (is_key p h.0 (λ v. omega (arith, le v)), keys-scaled ps h.1 (λ v. omega (arith, le v)))

    terms-scaled : (ps : Pairs) → AllKeys (IsKeyUnder vars ks) ps → IsWithin ps → terms (scaled t.0.0 t.1 ps) ≡ multiples (term_under vars ks t) (terms ps)
    terms-scaled [] h le = refl
    terms-scaled (p ∷ ps) h le =
        ap₂ (λ (m : Powers) (ts : Summands). (m, t.1 *ℤ p.1) ∷ ts) (named-is p h.0 (λ v. omega (arith, le v)))
        (terms-scaled ps h.1 (λ v. omega (arith, le v)))

  module _ (ps : Pairs) (ps_in : AllKeys (IsKeyUnder vars ks) ps) (fits : CanMultiply (terms ps) one) (reach : AreInReach vars ks (terms ps) one) where
    flipped : CanMultiply one (terms ps)
    flipped = CanMultiply-flip (terms ps) one fits

    reached : AreInReach vars ks one (terms ps)
    reached = AreInReach-flip vars ks (terms ps) one reach

    pub scale_fits : CanScale t.0.0 t.1 ps
    scale_fits =
        let size : norm_of one ≡ unsigned_abs t.1 = omega arith in
        can_scale (terms ps) reached ps ps_in (λ v. omega arith) (omega arith) (subst (λ n. n * norm_of (terms ps) < 2 ^ 127) size flipped.norm_fits)

    pub scale_keys : AllKeys (IsKeyUnder vars ks) (scaled t.0.0 t.1 ps)
    scale_keys = keys-scaled (terms ps) reached ps ps_in (λ v. omega arith)

    pub scale_terms : keyed_terms_under vars ks (scaled t.0.0 t.1 ps) ≡ product_of (keyed_terms_under vars ks ps) (term_under vars ks t ∷ [])
    scale_terms =
        terms-scaled (terms ps) reached ps ps_in (λ v. omega arith) ∙ product_of_one (term_under vars ks t) (terms ps) flipped
        ∙ product_of_comm one (terms ps)
