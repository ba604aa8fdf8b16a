-- The terms of a store multiplied out, from the lowest index up.
use Rattle.std.proofs.Common.{◌≡◌, ℕ, ◌+◌, ◌<◌, inl, inr, List, [], ◌∷◌, ◌++◌, Some, length, slice_get, sym, ap, ◌∙◌, arith}
use Rattle.std.proofs.lemmas.List.{length_push}
use Rattle.geo_points.specs.declared.ids.TermId.{TermId}
use Rattle.geo_poly.specs.Polynomials.{Summands}
use Rattle.geo_terms.specs.Stores.{Store, IsStore, tree_of}
use Rattle.fraction_poly.specs.MultipliedOut.{multiplied_out}
use Rattle.fraction_poly.specs.Inner.Parts.{HasParts}
use Rattle.fraction_poly.proofs.Places.{place_cases, slice_get-end, slice_get-front}
use Rattle.fraction_poly.proofs.ReachedParts.{part_below}

-- the terms below i are multiplied out
pub record AreMultiplied (nodes : Store) (i : ℕ) (parts : List (Summands × Summands)) : Type 0 where
  pub count : length parts ≡ i
  pub each : (c : TermId) → c.0 < i → slice_get parts c.0 ≡ Some (multiplied_out (tree_of nodes c))

module _ (nodes : Store) (i : ℕ) (parts : List (Summands × Summands)) (h : AreMultiplied nodes i parts) where
  -- one term more
  pub AreMultiplied-push : (part : Summands × Summands) → part ≡ multiplied_out (tree_of nodes (record { 0 = i })) → AreMultiplied nodes (i + 1) (parts ++ part ∷ [])
  AreMultiplied-push part is = record {
    count = length_push parts part ∙ ap (λ k. k + 1) h.count;
    each = λ c below. elim (place_cases c.0 i (omega arith)) [
      | inl before ↦ slice_get-front parts (part ∷ []) c.0 (omega (arith, h.count)) ∙ h.each c before
      | inr last ↦
          slice_get-end parts part c.0 (last ∙ sym h.count) ∙ ap Some is
          ∙ ap (λ k. Some (multiplied_out (tree_of nodes (record { 0 = k })))) (sym last)
    ];
  }

  -- the parts of the next node are there
  pub HasParts-at : (id : TermId) → IsStore nodes → id.0 ≡ i → HasParts nodes parts id
  HasParts-at id store at = record {
    each = λ node c here part. h.each c (let below = part_below id.0 node c (store.children id.0 node here) part in omega arith);
  }
