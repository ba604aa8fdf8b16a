-- Each text has a lexing: from each place on there are tokens, up to the end or to a fault.
use Rattle.std.proofs.Common.{◌≡◌, ◌≢◌, ◌==◌, ℕ, zero, suc, ◌+◌, ◌-◌, ◌<◌, ◌≤◌, ◌^◌, ◌⊎◌, Bool, true, false, ◌&&◌, ◌||◌, not, Option, Some, None, List, [], ◌∷◌, ◌++◌}
use Rattle.std.proofs.Common.{length, take, drop, get_or, slice_range, refl, sym, ap, ◌∙◌, subst, inl, inr, arith, take_at, get_or-drop, length-drop, length-append}
use Rattle.std.specs.Prelude.{nat_le}
use Rattle.std.specs.List.{prefix_len}
use Rattle.std.proofs.Math.Nat.{eq-or-lt_of_le}
use Rattle.std.proofs.lemmas.Bool.Decides.{nat_tests}
use Rattle.std.proofs.lemmas.List.{get_or_at}
use Rattle.geo_base.specs.Decimals.{IsDecimal, decimal_size}
use Rattle.geo_lexer.specs.declared.token_types.Fault.{Fault}
use Rattle.geo_lexer.specs.declared.token_types.Kind.{Kind}
use Rattle.geo_lexer.specs.declared.token_types.Kind.TheVariants.{Word, Number, Open, Close}
use Rattle.geo_lexer.specs.declared.token_types.Token.{Token}
use Rattle.geo_lexer.specs.Bytes.{is_blank, is_comment_start, is_digit, is_gap, is_letter, is_word_byte}
use Rattle.geo_lexer.specs.Laws.{TextsAreLexed}
use Rattle.geo_lexer.specs.Tokens.{AreTokens, BeginsNothing, IsFaultAt, IsGap, IsLastGap, IsLexedEnd, IsTokenAt, IsWordAt, StopsAt}
use Rattle.geo_lexer.proofs.Runs.{IsRun, IsRun-prefix_len}
use Rattle.geo_lexer.proofs.TokenLemmas.{IsNumberAt-run, IsWordAt-run, bare_minus, number_of_digit, number_of_minus}
use Rattle.geo_lexer.proofs.TokenListLemmas.{IsTokenAt-within}

-- GAPS

-- the bytes begin with a gap, and then with a byte that is in none; `inside` tells whether they begin inside a comment
record BeginsWithGap (bytes : List ℕ) (inside : Bool) : Type 0 where
  pub front : List ℕ
  pub next : ℕ
  pub rest : List ℕ
  pub split : bytes ≡ front ++ next ∷ rest
  pub gap : is_gap false inside front ≡ true
  pub no_blank : is_blank next ≡ false
  pub no_comment : is_comment_start next ≡ false

-- a byte before a gap
more_gap : (b : ℕ) (bs : List ℕ) (inside inside' : Bool)
    → ((open_end : Bool) (front : List ℕ) → is_gap open_end inside' front ≡ true → is_gap open_end inside (b ∷ front) ≡ true)
    → (is_gap true inside' bs ≡ true) ⊎ BeginsWithGap bs inside' → (is_gap true inside (b ∷ bs) ≡ true) ⊎ BeginsWithGap (b ∷ bs) inside
more_gap b bs inside inside' onward (inl last) = inl (onward true bs last)
more_gap b bs inside inside' onward (inr g) =
    inr (record {
      front = b ∷ g.front;
      next = g.next;
      rest = g.rest;
      split = ap (λ xs. b ∷ xs) g.split;
      gap = onward false g.front g.gap;
      no_blank = g.no_blank;
      no_comment = g.no_comment;
    })

-- all bytes are a gap, which may end inside a comment, or a byte of them is in none
begins : (bytes : List ℕ) (inside : Bool) → (is_gap true inside bytes ≡ true) ⊎ BeginsWithGap bytes inside
begins [] inside = inl refl
begins (b ∷ bs) true = more_gap b bs true (not (b == 10)) (λ open_end front h. h) (begins bs (not (b == 10)))
begins (b ∷ bs) false = by (is_blank b) refl (is_comment_start b) refl (begins bs false) (begins bs true)
  where
    by : (x : Bool) → is_blank b ≡ x → (y : Bool) → is_comment_start b ≡ y
        → (is_gap true false bs ≡ true) ⊎ BeginsWithGap bs false → (is_gap true true bs ≡ true) ⊎ BeginsWithGap bs true
        → (is_gap true false (b ∷ bs) ≡ true) ⊎ BeginsWithGap (b ∷ bs) false
    by true blank y comment outer inner =
        more_gap b bs false false
        (λ open_end front h.
        ap (λ x. (x && is_gap open_end false front) || (is_comment_start b && is_gap open_end true front)) blank
        ∙ ap (λ p. p || (is_comment_start b && is_gap open_end true front)) h)
        outer
    by false blank true comment outer inner =
        more_gap b bs false true
        (λ open_end front h.
        ap (λ x. (x && is_gap open_end false front) || (is_comment_start b && is_gap open_end true front)) blank
        ∙ ap (λ y. y && is_gap open_end true front) comment ∙ h)
        inner
    by false blank false comment outer inner =
        inr (record { front = []; next = b; rest = bs; split = refl; gap = refl; no_blank = blank; no_comment = comment })

-- a gap begins at the place, and then stands a byte that is in none
record HasGapAt (bytes : List ℕ) (start : ℕ) : Type 0 where
  pub place : ℕ
  pub gap : IsGap bytes start place
  pub within : place < length bytes
  pub no_blank : is_blank (get_or bytes place 0) ≡ false
  pub no_comment : is_comment_start (get_or bytes place 0) ≡ false

gap_at : (bytes : List ℕ) (start : ℕ) → start ≤ length bytes → IsLastGap bytes start ⊎ HasGapAt bytes start
gap_at bytes start within = by (begins (drop start bytes) false)
  where
    by : (is_gap true false (drop start bytes) ≡ true) ⊎ BeginsWithGap (drop start bytes) false → IsLastGap bytes start ⊎ HasGapAt bytes start
    by (inl last) = inl (within, last)
    by (inr g) =
        let size : start + length g.front - start ≡ length g.front = omega arith in
        let left : length (drop start bytes) ≡ length g.front + suc (length g.rest) = ap length g.split ∙ length-append g.front (g.next ∷ g.rest) in
        let inside : start + length g.front < length bytes = omega (arith, left, length-drop start bytes) in
        let front : slice_range bytes start (start + length g.front) ≡ g.front =
        ap (λ n. take n (drop start bytes)) size ∙ ap (take (length g.front)) g.split ∙ take_at g.front (g.next ∷ g.rest) (length g.front) refl in
        let next : get_or bytes (start + length g.front) 0 ≡ g.next =
        sym (get_or-drop start bytes (length g.front) 0) ∙ ap (λ xs. get_or xs (length g.front) 0) g.split ∙ get_or_at g.front g.next g.rest 0 (length g.front) refl in
        inr (record {
          place = start + length g.front;
          gap = (omega arith, omega arith, ap (is_gap false false) front ∙ g.gap);
          within = inside;
          no_blank = ap is_blank next ∙ g.no_blank;
          no_comment = ap is_comment_start next ∙ g.no_comment;
        })

-- A TOKEN

-- a token stands at the place, or what is no token
abbrev IsTokenOrFault : List ℕ → ℕ → Type 0
IsTokenOrFault bytes start =
    ((t : Token) × (t.start ≡ start) × IsTokenAt bytes t.kind t.start t.end)
    ⊎ ((f : Fault) × (f.place ≡ start) × IsFaultAt bytes f.refusal f.place)

module _ (bytes : List ℕ) (start : ℕ) (inside : start < length bytes) where
  -- a letter begins a word, which may be too long
  word_there : is_letter (get_or bytes start 0) ≡ true → IsTokenOrFault bytes start
  word_there letter = by (nat_le end (start + 64)) refl
    where
      end : ℕ
      end = start + prefix_len is_word_byte (drop start bytes)

      at : IsWordAt bytes start end
      at = IsWordAt-run bytes start end inside letter (IsRun-prefix_len is_word_byte bytes start end (omega arith) refl)

      by : (short : Bool) → nat_le end (start + 64) ≡ short → IsTokenOrFault bytes start
      by true h =
          let few : end ≤ start + 64 = grind (arith, nat_tests) in
          inl (record { kind = Word; start = start; end = end }, refl, (at, few))
      by false h =
          let many : start + 64 < end = grind (arith, nat_tests) in
          inr (record { refusal = 3; place = start }, refl, inr (inr (refl, record { end = end; word = at; long = many })))

  -- where the digits behind the first byte end
  abbrev digits_end : ℕ
  digits_end = (start + 1) + prefix_len is_digit (drop (start + 1) bytes)

  digits : IsRun is_digit bytes (start + 1) digits_end
  digits = IsRun-prefix_len is_digit bytes (start + 1) digits_end (omega arith) refl

  -- a decimal text is a number, which may be too wide
  number_there : IsDecimal (slice_range bytes start digits_end) → IsTokenOrFault bytes start
  number_there decimal = by (nat_le (2 ^ 127) (decimal_size (slice_range bytes start digits_end))) refl
    where
      by : (wide : Bool) → nat_le (2 ^ 127) (decimal_size (slice_range bytes start digits_end)) ≡ wide → IsTokenOrFault bytes start
      by false h =
          let fits : decimal_size (slice_range bytes start digits_end) < 2 ^ 127 = grind (arith, nat_tests) in
          inl (record { kind = Number; start = start; end = digits_end }, refl, (IsNumberAt-run bytes start digits_end digits decimal, fits))
      by true h =
          let wide : 2 ^ 127 ≤ decimal_size (slice_range bytes start digits_end) = grind (arith, nat_tests) in
          inr (
            record { refusal = 2; place = start },
            refl,
            inr (inl (refl, record { end = digits_end; number = IsNumberAt-run bytes start digits_end digits decimal; wide = wide })),
          )

  -- what begins nothing is a fault
  nothing_there : BeginsNothing bytes start → IsTokenOrFault bytes start
  nothing_there nothing = inr (record { refusal = 1; place = start }, refl, inl (refl, nothing))

  -- a `-` begins a number, or nothing
  minus_there : get_or bytes start 0 ≡ 45 → IsTokenOrFault bytes start
  minus_there minus = by (eq-or-lt_of_le digits.onward)
    where
      by : (start + 1 ≡ digits_end) ⊎ (start + 1 < digits_end) → IsTokenOrFault bytes start
      by (inl same) = nothing_there (bare_minus bytes start inside minus (subst (StopsAt is_digit bytes) (sym same) digits.whole))
      by (inr more) = number_there (number_of_minus bytes start digits_end inside minus more digits)

  -- a brace
  brace_there : (kind : Kind) → IsTokenAt bytes kind start (start + 1) → IsTokenOrFault bytes start
  brace_there kind at = inl (record { kind = kind; start = start; end = start + 1 }, refl, at)

  token_there : is_blank (get_or bytes start 0) ≡ false → is_comment_start (get_or bytes start 0) ≡ false → IsTokenOrFault bytes start
  token_there no_blank no_comment = by (is_letter b) refl (is_digit b) refl (b == 45) refl (b == 123) refl (b == 125) refl
    where
      b : ℕ
      b = get_or bytes start 0

      by : (letter : Bool) → is_letter b ≡ letter → (digit : Bool) → is_digit b ≡ digit → (minus : Bool) → (b == 45) ≡ minus → (opens : Bool) → (b == 123) ≡ opens
          → (closes : Bool) → (b == 125) ≡ closes → IsTokenOrFault bytes start
      by true h digit k minus l opens m closes n = word_there h
      by false h true k minus l opens m closes n = number_there (number_of_digit bytes start digits_end inside k digits)
      by false h false k true l opens m closes n = minus_there (let e : b ≡ 45 = grind (arith, nat_tests) in e)
      by false h false k false l true m closes n =
          brace_there Open (record { one = refl; within = omega arith; same = (let e : b ≡ 123 = grind (arith, nat_tests) in e) })
      by false h false k false l false m true n =
          brace_there Close (record { one = refl; within = omega arith; same = (let e : b ≡ 125 = grind (arith, nat_tests) in e) })
      by false h false k false l false m false n =
          nothing_there (record {
            within = inside;
            no_word = h;
            no_digit = k;
            no_brace = ap (λ x. x || (b == 125)) m ∙ n;
            no_blank = no_blank;
            no_comment = no_comment;
            no_minus = λ e more. absurd (let no : b ≢ 45 = grind (arith, nat_tests) in no e);
          })

-- ALL TOKENS

-- tokens from a place on, up to the end of the text or to a fault
record IsLexedFrom (bytes : List ℕ) (start : ℕ) : Type 0 where
  pub tokens : List Token
  pub fault : Option Fault
  pub end : ℕ
  pub are : AreTokens bytes start tokens end
  pub end_is : IsLexedEnd bytes end fault

-- a gap, and then a token and those behind it, or a fault
module _ (bytes : List ℕ) (start : ℕ) (behind : (place : ℕ) → start < place → place ≤ length bytes → IsLexedFrom bytes place) where
  lexed_behind : (g : HasGapAt bytes start) → IsTokenOrFault bytes g.place → IsLexedFrom bytes start
  lexed_behind g (inl (t, here, at)) =
      let size = IsTokenAt-within bytes t.kind t.start t.end at in
      let gap : IsGap bytes start t.start = subst (IsGap bytes start) (sym here) g.gap in
      let rest = behind t.end (omega (arith, size.0, gap.0)) size.1 in record {
        tokens = t ∷ rest.tokens;
        fault = rest.fault;
        end = rest.end;
        are = (gap, at, rest.are);
        end_is = rest.end_is;
      }
  lexed_behind g (inr (f, here, at)) = record {
    tokens = [];
    fault = Some f;
    end = start;
    are = refl;
    end_is = (subst (IsGap bytes start) (sym here) g.gap, at);
  }

  lexed_gap : IsLastGap bytes start ⊎ HasGapAt bytes start → IsLexedFrom bytes start
  lexed_gap (inl last) = record { tokens = []; fault = None; end = start; are = refl; end_is = last }
  lexed_gap (inr g) = lexed_behind g (token_there bytes g.place g.within g.no_blank g.no_comment)

lexed_from : (n : ℕ) (bytes : List ℕ) (start : ℕ) → start ≤ length bytes → length bytes ≤ start + n → IsLexedFrom bytes start
lexed_from zero bytes start within few = lexed_gap bytes start (λ place later inside. absurd (omega arith)) (gap_at bytes start within)
lexed_from (suc n) bytes start within few =
    lexed_gap bytes start (λ place later inside. lexed_from n bytes place inside (omega arith)) (gap_at bytes start within)

-- each text has one
pub texts_are_lexed : TextsAreLexed
texts_are_lexed bytes =
    let h = lexed_from (length bytes) bytes 0 (omega arith) (omega arith) in
    (h.tokens, h.fault, record { end = h.end; tokens_are = h.are; end_is = h.end_is })
