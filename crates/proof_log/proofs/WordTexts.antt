-- Texts of words, written in parts.
use Rattle.std.proofs.Common.{◌≡◌, ℕ, ◌+◌, ◌-◌, ◌<◌, ◌≤◌, List, [], ◌∷◌, ◌++◌, drop, length, take, refl, sym, ap, subst, ◌∙◌, append_assoc, arith}
use Rattle.std.specs.List.{All, flat_map}
use Rattle.std.proofs.lemmas.List.{drop_at, length-append, length-drop, take_all, take_at}
use Rattle.std.proofs.lemmas.List.Concat.{flat_map-cons}
use Rattle.std.proofs.lemmas.List.Elements.{All-append, All-cons, All-nil}
use Rattle.mono_store.specs.Words.{Limits, powers_of_word, word_count}
use Rattle.mono_store.proofs.WordDigits.{powers_of_word-zero}
use Rattle.proof_log.specs.declared.kept_texts.Head.{Head}
use Rattle.proof_log.specs.Inner.KeptTexts.{BeginWith, IsBegun, IsHead, IsSpan, numbered_text, word_text}
use Rattle.proof_log.proofs.WordFronts.{same_front}

module _ (names : List (List ℕ)) (limits : Limits) where
  abbrev text_of : ℕ → List ℕ
  text_of word = word_text names limits word

  -- the word 0 has no power
  pub no_text : (word : ℕ) → word ≡ 0 → text_of word ≡ []
  no_text word none = ap text_of none ∙ ap (flat_map (numbered_text names)) (powers_of_word-zero limits)

  pub tail_of_none : (bytes : List ℕ) (word : ℕ) → word ≡ 0 → IsSpan bytes (record { start = 0; end = 0 }) (text_of word)
  tail_of_none bytes word none = record { ordered = omega arith; within = omega arith; is = sym (no_text word none) }

  -- every word begins with nothing
  pub head_of_none : (bytes : List ℕ) (room : ℕ) → IsHead names limits bytes (record { word = 0; room = room; text = record { start = 0; end = 0 } })
  head_of_none bytes room = record {
    text = [];
    span = record { ordered = omega arith; within = omega arith; is = refl };
    begin = record { texts = λ r le. let e : 0 + r ≡ r = omega arith in ap text_of e };
  }

  -- one more head
  pub heads_more : (bytes : List ℕ) (heads : List Head) (h : Head) → IsHead names limits bytes h → All (IsHead names limits bytes) heads
      → All (IsHead names limits bytes) (heads ++ h ∷ [])
  heads_more bytes heads h is all =
      let P = IsHead names limits bytes in All-append P heads (h ∷ []) all (All-cons P h [] is (All-nil P))

  -- WHAT IS WRITTEN

  pub begun_head : (bytes old now front : List ℕ) (word : ℕ) (h : Head) → (is : IsHead names limits bytes h) → h.word ≤ word → word - h.word ≤ h.room
      → now ≡ old ++ front → front ≡ is.text → IsBegun names limits old now word (word - h.word)
  begun_head bytes old now front word h is up near grew same = record {
    text = is.text;
    grown = grew ∙ ap (λ (l : List ℕ). old ++ l) same;
    up = omega arith;
    begin = record {
      texts = λ r le.
          let e : word - (word - h.word) + r ≡ h.word + r = omega (arith, up) in
          ap text_of e ∙ is.begin.texts r (omega (arith, le, near));
    };
  }

  module _ (old now : List ℕ) (word rest : ℕ) (begun : IsBegun names limits old now word rest) where
    -- the rest behind what is written is the whole
    pub begun_whole : now ++ text_of rest ≡ old ++ text_of word
    begun_whole =
        let e : word ≡ word - rest + rest = omega (arith, begun.up) in
        let whole = ap text_of e ∙ begun.begin.texts rest (omega arith) in
        ap (λ (l : List ℕ). l ++ text_of rest) begun.grown ∙ append_assoc old begun.text (text_of rest)
        ∙ ap (λ (l : List ℕ). old ++ l) (sym whole)

    -- the old text is the first part of the new one
    pub begun_there : (n : ℕ) → length old ≡ n → IsBegun names limits (take n now) now word rest
    begun_there n start =
        subst (λ (l : List ℕ). IsBegun names limits l now word rest) (sym (ap (take n) begun.grown ∙ take_at old begun.text n start)) begun

    -- the rest stands where the whole goes on
    pub begun_behind : (whole : List ℕ) (n : ℕ) → whole ≡ old ++ text_of word → length now ≡ n → (n ≤ length whole) × (drop n whole ≡ text_of rest)
    begun_behind whole n is start =
        let parts : whole ≡ now ++ text_of rest = is ∙ sym begun_whole in
        (omega (arith, start, ap length parts ∙ length-append now (text_of rest)), ap (drop n) parts ∙ drop_at now (text_of rest) n start)

    -- what was written since
    pub begun_since : (bytes : List ℕ) (n : ℕ) → bytes ≡ now → length old ≡ n
        → BeginWith names limits (take (length bytes - n) (drop n bytes)) (word - rest) rest
    begun_since bytes n is start =
        let behind : drop n bytes ≡ begun.text = ap (drop n) (is ∙ begun.grown) ∙ drop_at old begun.text n start in
        let all = take_all (length bytes - n) (drop n bytes) (omega (arith, length-drop n bytes)) in
        subst (λ (l : List ℕ). BeginWith names limits l (word - rest) rest) (sym (all ∙ behind)) begun.begin

    pub begun_step : (new : List ℕ) (v e next : ℕ) → word < word_count limits → powers_of_word limits rest ≡ (v, e) ∷ powers_of_word limits next → next < rest
        → new ≡ now ++ numbered_text names (v, e) → IsBegun names limits old new word next
    begun_step new v e next within is less grew = record {
      text = begun.text ++ numbered_text names (v, e);
      grown =
          grew ∙ ap (λ (l : List ℕ). l ++ numbered_text names (v, e)) begun.grown ∙ append_assoc old begun.text (numbered_text names (v, e));
      up = omega (arith, begun.up, less);
      begin = record {
        texts = λ r le.
            let place : word - next + r ≡ word - rest + (rest - next + r) = omega (arith, begun.up, less) in
            let front = same_front limits rest next v e (omega (arith, begun.up, within)) (omega (arith, begun.up, within, less)) is r le in
            ap text_of place ∙ begun.begin.texts (rest - next + r) (omega (arith, less, le))
            ∙ ap (λ (l : List ℕ). begun.text ++ l) (ap (flat_map (numbered_text names)) front ∙ flat_map-cons (numbered_text names) (v, e) (powers_of_word limits r))
            ∙ sym (append_assoc begun.text (numbered_text names (v, e)) (text_of r));
      };
    }
