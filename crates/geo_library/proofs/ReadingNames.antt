-- The names behind a log are read one after another.
use Rattle.std.proofs.Common.{◌≡◌, ℕ, suc, ◌+◌, true, false, Bool, cond, Option, Some, None, length, take, drop, List, [], ◌∷◌, ◌++◌, refl, sym, ◌∙◌, ap, subst, append_assoc, append-nil, arith}
use Rattle.std.specs.Prelude.{All, IfNone, codes}
use Rattle.std.specs.List.{AllByRecursion, AllPass, flat_map, prefix_len}
use Rattle.std.proofs.lemmas.List.{take-append-drop}
use Rattle.std.proofs.lemmas.List.Elements.{All-from_recursion, recursion_from_All}
use Rattle.geo_lexer.specs.Bytes.{is_word_byte}
use Rattle.geo_lexer.specs.Lexemes.{IsWord}
use Rattle.geo_library.specs.Inputs.{BeginsWithNames, with_line}
use Rattle.geo_library.specs.Inner.Names.{HasNoNames}
use Rattle.geo_library.proofs.Cutting.{AreWordBytes, AreWords, Stops, bytes_of, spaced, stops}

pub if_none : {T : Type 0} (r : Option T) (P : Type 0) → P → IfNone r P
if_none (Some x) P h = tt
if_none None P h = h

-- WORDS
-- no byte of a word stands first, if one does
abbrev Ends : List ℕ → Type 0
Ends [] = Unit {0}
Ends (c ∷ cs) = is_word_byte c ≡ false

one_more : (n : ℕ) → 1 + n ≡ suc n
one_more n = omega arith

run_on : (x : ℕ) (xs : List ℕ) → is_word_byte x ≡ true → prefix_len is_word_byte (x ∷ xs) ≡ suc (prefix_len is_word_byte xs)
run_on x xs e = ap (λ b. cond b (1 + prefix_len is_word_byte xs) 0) e ∙ one_more (prefix_len is_word_byte xs)

run_ends : (x : ℕ) (xs : List ℕ) → is_word_byte x ≡ false → prefix_len is_word_byte (x ∷ xs) ≡ 0
run_ends x xs e = ap (λ b. cond b (1 + prefix_len is_word_byte xs) 0) e

-- the longest run of bytes of words
run_words : (xs : List ℕ) → AreWordBytes (take (prefix_len is_word_byte xs) xs)
run_words [] = tt
run_words (x ∷ xs) = go (run_words xs) (is_word_byte x) refl
  where
    go : AreWordBytes (take (prefix_len is_word_byte xs) xs) → (t : Bool) → is_word_byte x ≡ t → AreWordBytes (take (prefix_len is_word_byte (x ∷ xs)) (x ∷ xs))
    go rest true e = subst (λ n. AreWordBytes (take n (x ∷ xs))) (sym (run_on x xs e)) (e, rest)
    go rest false e = subst (λ n. AreWordBytes (take n (x ∷ xs))) (sym (run_ends x xs e)) tt

run_stops : (xs : List ℕ) → Ends (drop (prefix_len is_word_byte xs) xs)
run_stops [] = tt
run_stops (x ∷ xs) = go (run_stops xs) (is_word_byte x) refl
  where
    go : Ends (drop (prefix_len is_word_byte xs) xs) → (t : Bool) → is_word_byte x ≡ t → Ends (drop (prefix_len is_word_byte (x ∷ xs)) (x ∷ xs))
    go rest true e = subst (λ n. Ends (drop n (x ∷ xs))) (sym (run_on x xs e)) rest
    go rest false e = subst (λ n. Ends (drop n (x ∷ xs))) (sym (run_ends x xs e)) e

pub all_word_bytes : (xs : List ℕ) → AllPass is_word_byte (take (prefix_len is_word_byte xs) xs)
all_word_bytes xs = All-from_recursion (λ (b : ℕ). is_word_byte b ≡ true) (take (prefix_len is_word_byte xs) xs) (run_words xs)

-- a word ends where the run does
same_word : (a b s t : List ℕ) → AreWordBytes a → AreWordBytes b → Ends s → Stops t → a ++ s ≡ b ++ t → (a ≡ b) × (s ≡ t)
same_word [] [] s t h k u v e = (refl, e)
same_word [] (y ∷ b) [] t h k u v e = let z : ◌≡◌ {A = ℕ} 0 (suc (length (b ++ t))) = ap length e in absurd (omega (arith, z))
same_word [] (y ∷ b) (c ∷ s) t h k u v e = let z : c ≡ y = cc in let f : false ≡ true = sym u ∙ ap is_word_byte z ∙ k.0 in cc
same_word (x ∷ a) [] s [] h k u v e = absurd v
same_word (x ∷ a) [] s (c ∷ t) h k u v e = let z : c ≡ x = cc in let f : false ≡ true = sym v ∙ ap is_word_byte z ∙ h.0 in cc
same_word (x ∷ a) (y ∷ b) s t h k u v e =
    let z : x ≡ y = cc in let tails : a ++ s ≡ b ++ t = cc in let r = same_word a b s t h.1 k.1 u v tails in (λ i. z i ∷ r.0 i, r.1)

-- ONE AFTER ANOTHER
-- these names are read, and this is left of what follows the log
pub record AreReadSoFar (rest : List ℕ) (texts : List (List ℕ)) (left : List ℕ) : Type 0 where
  pub words : AreWords texts
  pub split : rest ≡ codes "with" ++ spaced texts ++ left
  pub others : (us : List (List ℕ)) (written : List ℕ) → BeginsWithNames rest us written → (vs : List (List ℕ)) × AreWords vs × (left ≡ spaced vs ++ 10 ∷ written)

regrouped : (us : List (List ℕ)) (written : List ℕ) → with_line us ++ written ≡ codes "with" ++ spaced us ++ 10 ∷ written
regrouped us written = ap (λ (l : List ℕ). codes "with" ++ l) (append_assoc (spaced us) (10 ∷ []) written)

pub no_with : (rest : List ℕ) → ((more : List ℕ) → rest ≡ codes "with" ++ more → ⊥) → HasNoNames rest
no_with rest none us written h = none (spaced us ++ 10 ∷ written) (h.split ∙ regrouped us written)

pub begins : (rest left : List ℕ) → rest ≡ codes "with" ++ left → AreReadSoFar rest [] left
begins rest left e = record {
  words = tt;
  split = e;
  others = λ us written h.
      let same : codes "with" ++ left ≡ codes "with" ++ spaced us ++ 10 ∷ written = sym e ∙ h.split ∙ regrouped us written in
      let tails : left ≡ spaced us ++ 10 ∷ written = cc in
      (us, recursion_from_All IsWord us h.words, tails);
}

spaced_more : (texts : List (List ℕ)) (word after : List ℕ) → spaced texts ++ 32 ∷ (word ++ after) ≡ spaced (texts ++ word ∷ []) ++ after
spaced_more [] word after = ap (λ (l : List ℕ). 32 ∷ (l ++ after)) (sym (append-nil word))
spaced_more (t ∷ ts) word after =
    append_assoc (32 ∷ t) (spaced ts) (32 ∷ (word ++ after))
    ∙ ap (λ (l : List ℕ). (32 ∷ t) ++ l) (spaced_more ts word after)
    ∙ sym (append_assoc (32 ∷ t) (spaced (ts ++ word ∷ [])) after)

words_more : (texts : List (List ℕ)) (word : List ℕ) → AreWords texts → IsWord word → AreWords (texts ++ word ∷ [])
words_more [] word h w = (w, tt)
words_more (t ∷ ts) word h w = (h.0, words_more ts word h.1 w)

module _ (rest : List ℕ) (texts : List (List ℕ)) (left next : List ℕ) (k : AreReadSoFar rest texts left) (e : left ≡ 32 ∷ next) where
  abbrev n : ℕ
  n = prefix_len is_word_byte next

  abbrev word : List ℕ
  word = take n next

  abbrev after : List ℕ
  after = drop n next

  -- each reading goes on with this word
  same_next : (vs : List (List ℕ)) (written : List ℕ) → AreWords vs → left ≡ spaced vs ++ 10 ∷ written → (ws : List (List ℕ)) × AreWords ws × IsWord word × (after ≡ spaced ws ++ 10 ∷ written)
  same_next [] written h f = let z : ◌≡◌ {A = ℕ} 32 10 = (let g : 32 ∷ next ≡ 10 ∷ written = sym e ∙ f in cc) in absurd (omega (arith, z))
  same_next (v ∷ vs) written h f =
      let g : 32 ∷ next ≡ 32 ∷ ((v ++ spaced vs) ++ 10 ∷ written) = sym e ∙ f in
      let tails : next ≡ (v ++ spaced vs) ++ 10 ∷ written = cc in
      let r = same_word word v after (spaced vs ++ 10 ∷ written) (run_words next) (bytes_of v h.0) (run_stops next) (stops vs written)
      (take-append-drop n next ∙ tails ∙ append_assoc v (spaced vs) (10 ∷ written)) in
      (vs, h.1, subst IsWord (sym r.0) h.0, r.1)

  pub goes_on : IsWord word → AreReadSoFar rest (texts ++ word ∷ []) after
  goes_on w = record {
    words = words_more texts word k.words w;
    split =
        k.split
        ∙ ap (λ (l : List ℕ). codes "with" ++ spaced texts ++ l) (e ∙ ap (λ (l : List ℕ). 32 ∷ l) (sym (take-append-drop n next)))
        ∙ ap (λ (l : List ℕ). codes "with" ++ l) (spaced_more texts word after);
    others = λ us written h. let o = k.others us written h in let r = same_next o.0 written o.1 o.2 in (r.0, r.1, r.3);
  }

  pub no_word : (IsWord word → ⊥) → HasNoNames rest
  no_word none us written h = let o = k.others us written h in let r = same_next o.0 written o.1 o.2 in none r.2

module _ (rest : List ℕ) (texts : List (List ℕ)) (left : List ℕ) (k : AreReadSoFar rest texts left) where
  pub done : (program : List ℕ) → left ≡ 10 ∷ program → BeginsWithNames rest texts program
  done program e = record {
    words = All-from_recursion IsWord texts k.words;
    split = k.split ∙ ap (λ (l : List ℕ). codes "with" ++ spaced texts ++ l) e ∙ sym (regrouped texts program);
  }

  pub undone : ((more : List ℕ) → left ≡ 32 ∷ more → ⊥) → ((more : List ℕ) → left ≡ 10 ∷ more → ⊥) → HasNoNames rest
  undone space feed us written h = let o = k.others us written h in by o.0 o.2
    where
      by : (vs : List (List ℕ)) → left ≡ spaced vs ++ 10 ∷ written → ⊥
      by [] f = feed written f
      by (v ∷ vs) f = space ((v ++ spaced vs) ++ 10 ∷ written) f
