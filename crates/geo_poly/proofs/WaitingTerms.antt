-- The terms in the order in which they are to get their factors.
use Rattle.std.proofs.Common.{◌≡◌, ◌≤◌, List, [], ◌∷◌, map, sym, ap, subst, ◌∙◌, arith}
use Rattle.std.specs.Prelude.{All}
use Rattle.std.specs.List.Sorted.{IsPermutation}
use Rattle.std.proofs.lemmas.List.Elements.{All-cons, All-head, All-nil, All-tail}
use Rattle.std.proofs.lemmas.Simd.{map-map}
use Rattle.geo_poly.specs.Counted.{products_of_terms}
use Rattle.geo_poly.specs.declared.pending.Pending.{Pending}
use Rattle.geo_poly.specs.declared.settings.Setting.{Setting}
use Rattle.geo_poly.specs.declared.shared.Shared.{Shared}
use Rattle.geo_poly.specs.Inner.Accumulated.{accumulated_terms}
use Rattle.geo_poly.specs.Inner.Factored.{ArePending, Factored, IsNumbered, IsPending, Numbered, factored_products, factored_terms, factored_weight, numbered_of, told_numbered, told_pending}
use Rattle.geo_poly.specs.Polynomials.{Summands, polynomial_of}
use Rattle.geo_poly.specs.Replace.{weight_of}
use Rattle.geo_poly.proofs.PendingTerms.{ArePending-sorted}

module _ (setting : Setting) (p : Shared) where
  all_pending : (es : List Pending) → All (IsNumbered setting p 0) (map numbered_of es) → All (IsPending setting p 0) es
  all_pending [] h = All-nil (IsPending setting p 0)
  all_pending (e ∷ es) h =
      All-cons (IsPending setting p 0) e es (All-head (IsNumbered setting p 0) (numbered_of e) (map numbered_of es) h)
      (all_pending es (All-tail (IsNumbered setting p 0) (numbered_of e) (map numbered_of es) h))

  -- they become what the polynomial q becomes, with no more weight and no more products
  pub record AreWaiting (q : Summands) (es : List Pending) : Type 0 where
    pub terms : polynomial_of (factored_terms (map (told_pending setting p 0) es))
        ≡ polynomial_of (accumulated_terms setting.rows.now setting.den.piece.now.poly setting.top q)
    pub weight : factored_weight (map (told_pending setting p 0) es) ≤ weight_of setting.rows.now setting.den.piece.now setting.top q
    pub products : factored_products (map (told_pending setting p 0) es) ≤ products_of_terms setting.rows.now setting.den.piece.now setting.top q
    pub pending : All (IsPending setting p 0) es

  numbered_waiting : (q : Summands) (es : List Pending) → ArePending setting p q (map numbered_of es) → AreWaiting q es
  numbered_waiting q es h =
      let same = map-map (told_numbered setting p 0) numbered_of es in
      record {
        terms = ap (λ (us : List Factored). polynomial_of (factored_terms us)) (sym same) ∙ h.terms;
        weight = omega (arith, ap factored_weight same, h.weight);
        products = omega (arith, ap factored_products same, h.products);
        pending = all_pending es h.pending;
      }

  pub waiting : (q : Summands) (ts : List Numbered) (es fs : List Pending) → IsPermutation ts (map numbered_of es) → fs ≡ es → ArePending setting p q ts
      → AreWaiting q fs
  waiting q ts es fs moved same h =
      subst (AreWaiting q) (sym same) (numbered_waiting q es (ArePending-sorted setting p q ts (map numbered_of es) moved h))
