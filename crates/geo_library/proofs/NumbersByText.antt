-- The numbers of texts in a map.
use Rattle.std.proofs.Common.{◌≡◌, ℕ, ◌+◌, ◌<◌, Bool, true, false, cond, Option, Some, None, List, [], ◌∷◌, ◌++◌, length, get_or, take, inl, inr}
use Rattle.std.proofs.Common.{refl, sym, ap, ◌∙◌, subst, arith, length-append, length-take-le}
use Rattle.std.specs.Prelude.{IfNone, IfSome, slice_index_or}
use Rattle.std.specs.Borrow.{Bor}
use Rattle.std.specs.BTreeMap.{BTreeMap, UpdatesBy, get_by, is_at}
use Rattle.std.specs.Cmp.Lexicographic.{slice_cmp}
use Rattle.std.specs.Map.{lookup}
use Rattle.std.specs.Ordering.{nat_cmp}
use Rattle.std.specs.Str.{bytes_eq}
use Rattle.std.proofs.lemmas.Bool.{cases_lt, false≢true}
use Rattle.std.proofs.lemmas.List.{get_or_append_left, get_or_push, take_more}
use Rattle.std.proofs.lemmas.Map.Text.{btree_map_updates_str}
use Rattle.std.proofs.lemmas.Slice.Eq.{bytes_eq-Decides}
use Rattle.geo_library.specs.Inner.Naming.{AreNumbersByText, IsNumberOf}

-- of no texts there are no numbers
pub no_texts : (numbers : BTreeMap (Bor (List ℕ)) ℕ) → numbers.entries ≡ [] → AreNumbersByText [] numbers
no_texts numbers e = record {
  each = λ text. subst (λ (es : List (Bor (List ℕ) × ℕ)). IsNumberOf [] text (lookup (is_at (λ key. slice_cmp nat_cmp text key.now)) es)) (sym e) (λ n b is. omega (arith, b));
}

-- the number of a text when one more is there, which is it or is not
one_more : (texts : List (List ℕ)) (word text : List ℕ) (n : ℕ) (old : Option ℕ) → n ≡ length texts → IsNumberOf texts text old
    → (b : Bool) → bytes_eq word text ≡ b → IsNumberOf (texts ++ word ∷ []) text (cond b (Some n) old)
one_more texts word text n old last h true same =
    (omega (arith, last, length-append texts (word ∷ [])), get_or_push texts word [] n (sym last) ∙ (bytes_eq-Decides word text).0 same)
one_more texts word text n None last h false other = λ m b is. elim (cases_lt m n) [
  | inl lt ↦ h m (omega (arith, lt, last)) (sym (get_or_append_left texts (word ∷ []) [] m (omega (arith, lt, last))) ∙ is)
  | inr le ↦
      let here : length texts ≡ m = omega (arith, le, last, b, length-append texts (word ∷ [])) in
      false≢true (sym other ∙ (bytes_eq-Decides word text).1 (sym (get_or_push texts word [] m here) ∙ is))
]
one_more texts word text n (Some m) last h false other =
    (omega (arith, h.0, length-append texts (word ∷ [])), get_or_append_left texts (word ∷ []) [] m h.0 ∙ h.1)

-- the map with the number of the next text
pub next_text : (texts : List (List ℕ)) (n : ℕ) (word : List ℕ) (old new : BTreeMap (Bor (List ℕ)) ℕ) → n < length texts → word ≡ get_or texts n []
    → UpdatesBy (λ x y. slice_cmp nat_cmp x.now y.now) (λ key. slice_cmp nat_cmp word key.now) old new (Some n)
    → AreNumbersByText (take n texts) old → AreNumbersByText (take (n + 1) texts) new
next_text texts n word old new b is update h =
    subst (λ (ts : List (List ℕ)). AreNumbersByText ts new) (sym (take_more texts n [] b ∙ ap (λ (t : List ℕ). take n texts ++ t ∷ []) (sym is))) (record {
      each = λ text.
          subst (λ (o : Option ℕ). IsNumberOf (take n texts ++ word ∷ []) text o) (sym (btree_map_updates_str word old new (Some n) update text))
          (one_more (take n texts) word text n (get_by (λ key. slice_cmp nat_cmp text key.now) old) (sym (length-take-le n texts (omega (arith, b)))) (h.each text) (bytes_eq word text) refl);
    })

-- what a look-up gives
module _ (texts : List (List ℕ)) (text : List ℕ) where
  pub declared_of : (r : Option ℕ) → IsNumberOf texts text r → IfSome r (λ n. n < length texts)
  declared_of None h = tt
  declared_of (Some n) h = h.0

  pub named_of : (r : Option ℕ) → IsNumberOf texts text r → IfSome r (λ n. slice_index_or texts n [] ≡ text)
  named_of None h = tt
  named_of (Some n) h = h.1

  pub none_of : (r : Option ℕ) → IsNumberOf texts text r → IfNone r ((n : ℕ) → n < length texts → slice_index_or texts n [] ≡ text → ⊥)
  none_of None h = h
  none_of (Some n) h = tt
