-- The lexemes of a text that is put together from parts.
use Rattle.std.proofs.Common.{◌≡◌, ℕ, ◌+◌, ◌-◌, ◌<◌, ◌≤◌, ◌^◌, true, false, not, ℤ, None, Option, List, [], ◌∷◌, ◌++◌, map, length, drop}
use Rattle.std.proofs.Common.{get_or, slice_range, refl, ap, sym, ◌∙◌, subst, inl, arith, append_assoc, length-append, length-drop}
use Rattle.std.specs.Prelude.{unsigned_abs}
use Rattle.std.specs.Fmt.{signed_decimal}
use Rattle.std.specs.List.{AllPass}
use Rattle.std.proofs.lemmas.List.{drop-append-le, drop_all, map-append, take_all}
use Rattle.std.proofs.lemmas.List.Elements.{All-drop}
use Rattle.geo_base.specs.Decimals.{IsDecimal, decimal_size, decimal_value}
use Rattle.geo_base.proofs.DecimalLemmas.{WritesNumber, signed_decimal_writes}
use Rattle.geo_lexer.specs.declared.token_types.Fault.{Fault}
use Rattle.geo_lexer.specs.declared.token_types.Kind.{Kind}
use Rattle.geo_lexer.specs.declared.token_types.Kind.TheVariants.{Word, Number, Open, Close}
use Rattle.geo_lexer.specs.declared.token_types.Token.{Token}
use Rattle.geo_lexer.specs.Bytes.{is_comment_start, is_gap, is_letter, is_word_byte}
use Rattle.geo_lexer.specs.Lexemes.{Lexeme, word_lexeme, number_lexeme, open_brace, close_brace, HasLexemes, lexeme_at, lexeme_of, IsWord}
use Rattle.geo_lexer.specs.Tokens.{AreTokens, IsGap, IsLexed, IsLexedEnd, IsTokenAt}
use Rattle.geo_lexer.proofs.GapLemmas.{IsGap-append, IsLexedEnd-gap, closed_without_comment, is_gap-append, is_gap-line}
use Rattle.geo_lexer.proofs.Moved.{AreTokens-after, AreTokens-before, IsLastGap-after, Separates, lexemes-after, lexemes-before, moved}
use Rattle.geo_lexer.proofs.Ranges.{slice_range-before}
use Rattle.geo_lexer.proofs.TokenListLemmas.{AreTokens-append}
use Rattle.std.proofs.lemmas.Bool.{false≢true}

-- ---- two parts with a byte between them

-- tokens, a gap and the tokens after it
IsLexed-append : (bytes : List ℕ) (end place far : ℕ) (ts us : List Token) (fault : Option Fault) → AreTokens bytes 0 ts end
    → IsGap bytes end place → AreTokens bytes place us far → IsLexedEnd bytes far fault → IsLexed bytes (ts ++ us) fault
IsLexed-append bytes end place far ts [] fault before gap after ends = record {
  end = end;
  tokens_are = AreTokens-append bytes 0 end end ts [] before refl;
  end_is = IsLexedEnd-gap bytes end place fault gap (subst (λ (n : ℕ). IsLexedEnd bytes n fault) (sym after) ends);
}
IsLexed-append bytes end place far ts (u ∷ us) fault before gap after ends = record {
  end = far;
  tokens_are = AreTokens-append bytes 0 end far ts (u ∷ us) before (IsGap-append bytes end place u.start gap after.0, after.1, after.2);
  end_is = ends;
}

-- what is left after the last token ends outside a comment with the byte b
record IsClosedBy (text : List ℕ) (end b : ℕ) : Type 0 where
  within : end ≤ length text
  closed : is_gap false false (drop end text ++ b ∷ []) ≡ true

-- so a gap stands up to the next part
closing_gap : (text more : List ℕ) (b end : ℕ) → IsClosedBy text end b → IsGap ((text ++ b ∷ []) ++ more) end (length (text ++ b ∷ []) + 0)
closing_gap text more b end closes =
    let front = text ++ b ∷ [] in
    let within = closes.within in
    let size : length front ≡ length text + 1 = length-append text (b ∷ []) in
    let whole : slice_range (front ++ more) end (length front + 0) ≡ drop end text ++ b ∷ [] =
    slice_range-before front more end (length front + 0) (omega arith) (omega arith)
    ∙ take_all (length front + 0 - end) (drop end front) (omega (arith, length-drop end front))
    ∙ drop-append-le end text (b ∷ []) within in (
      omega arith,
      omega (arith, length-append front more),
      ap (is_gap false false) whole ∙ closes.closed,
    )

-- two parts with a byte between them that no token takes
join : (text more : List ℕ) (b : ℕ) (xs ys : List Lexeme) → Separates b → (has : HasLexemes text xs) → IsClosedBy text has.lexed.end b → HasLexemes more ys → HasLexemes (text ++ b ∷ more) (xs ++ ys)
join text more b xs ys separates has closes next =
    let front = text ++ b ∷ [] in
    let same : front ++ more ≡ text ++ b ∷ more = append_assoc text (b ∷ []) more in
    let end = has.lexed.end in
    let ts = has.tokens in
    let us = map (moved (length front)) next.tokens in
    let before = subst (λ (l : List ℕ). AreTokens l 0 ts end) (sym same) (AreTokens-before text more b 0 end ts separates has.lexed.tokens_are) in
    let after = AreTokens-after front more 0 next.lexed.end next.tokens next.lexed.tokens_are in
    let ends = IsLastGap-after front more next.lexed.end next.lexed.end_is in
    let first : map (lexeme_of (front ++ more)) ts ≡ xs = ap (λ l. map (lexeme_of l) ts) same ∙ lexemes-before text (b ∷ more) 0 end ts has.lexed.tokens_are ∙ has.meant in
    let second : map (lexeme_of (front ++ more)) us ≡ ys = lexemes-after front more next.tokens ∙ next.meant in
    subst (λ (l : List ℕ). HasLexemes l (xs ++ ys)) same (record {
      tokens = ts ++ us;
      lexed = IsLexed-append (front ++ more) end (length front + 0) (length front + next.lexed.end) ts us None before (closing_gap text more b end closes) after ends;
      meant = map-append (lexeme_of (front ++ more)) ts us ∙ (λ i. first i ++ second i);
    })

-- a line feed ends whatever stands at the end of the first part
pub HasLexemes-line : (text more : List ℕ) (xs ys : List Lexeme) → HasLexemes text xs → HasLexemes more ys → HasLexemes (text ++ 10 ∷ more) (xs ++ ys)
HasLexemes-line text more xs ys has next =
    let last = has.lexed.end_is in
    join text more 10 xs ys (record { no_word = refl; no_digit = refl }) has
    (record { within = last.0; closed = is_gap-line false false (drop has.lexed.end text) [] last.1 }) next

-- no `%` stands in the text
abbrev pub HasNoComment : List ℕ → Type 0
HasNoComment text = AllPass (λ b. not (is_comment_start b)) text

-- a space separates, where the first part has no comment
pub HasLexemes-space : (text more : List ℕ) (xs ys : List Lexeme) → HasNoComment text → HasLexemes text xs → HasLexemes more ys → HasLexemes (text ++ 32 ∷ more) (xs ++ ys)
HasLexemes-space text more xs ys plain has next =
    let last = has.lexed.end_is in
    let rest = drop has.lexed.end text in
    join text more 32 xs ys (record { no_word = refl; no_digit = refl }) has
    (record {
      within = last.0;
      closed = is_gap-append false false rest (32 ∷ []) (closed_without_comment rest (All-drop (λ b. not (is_comment_start b) ≡ true) has.lexed.end text plain) last.1);
    }) next

-- ---- parts of one token, and the empty text

-- the empty text has no lexemes
pub HasLexemes-nil : HasLexemes [] []
HasLexemes-nil = record {
  tokens = [];
  lexed = record { end = 0; tokens_are = refl; end_is = (omega arith, refl) };
  meant = refl;
}

-- a text that is one token
one_token : (text : List ℕ) (kind : Kind) (x : Lexeme) → IsTokenAt text kind 0 (length text) → lexeme_at text kind 0 (length text) ≡ x → HasLexemes text (x ∷ [])
one_token text kind x at meant = record {
  tokens = record { kind = kind; start = 0; end = length text } ∷ [];
  lexed = record {
    end = length text;
    tokens_are = ((omega arith, omega arith, refl), at, refl);
    end_is = (omega arith, ap (is_gap true false) (drop_all (length text) text (omega arith)));
  };
  meant = λ i. meant i ∷ [];
}

-- the braces
pub HasLexemes-open : HasLexemes (123 ∷ []) (open_brace ∷ [])
HasLexemes-open = one_token (123 ∷ []) Open open_brace (record { one = refl; within = omega arith; same = refl }) refl

pub HasLexemes-close : HasLexemes (125 ∷ []) (close_brace ∷ [])
HasLexemes-close = one_token (125 ∷ []) Close close_brace (record { one = refl; within = omega arith; same = refl }) refl

-- a whole text, as a part of itself
whole : (text : List ℕ) → slice_range text 0 (length text) ≡ text
whole text = take_all (length text - 0) text (omega arith)

-- what begins with a letter has a byte
some_of_letter : (text : List ℕ) → is_letter (get_or text 0 0) ≡ true → 0 < length text
some_of_letter [] letter = absurd (false≢true letter)
some_of_letter (b ∷ bs) letter = omega arith

-- a word
pub HasLexemes-word : (text : List ℕ) → IsWord text → HasLexemes text (word_lexeme text ∷ [])
HasLexemes-word text word =
    let short = word.short in
    one_token text Word (word_lexeme text) (
      record {
        some = some_of_letter text word.first;
        within = omega arith;
        first = word.first;
        all = subst (AllPass is_word_byte) (sym (whole text)) word.all;
        whole = inl refl;
      },
      omega arith,
    )
    (ap word_lexeme (whole text))

-- a decimal text has a byte
some_of_decimal : (text : List ℕ) → IsDecimal text → 0 < length text
some_of_decimal [] decimal = decimal.0
some_of_decimal (b ∷ bs) decimal = omega arith

-- a text that writes a number within 127 bits
number_text : (text : List ℕ) (z : ℤ) → WritesNumber text z → unsigned_abs z < 2 ^ 127 → HasLexemes text (number_lexeme z ∷ [])
number_text text z writes small =
    let size = writes.size in
    one_token text Number (number_lexeme z) (
      record {
        some = some_of_decimal text writes.decimal;
        within = omega arith;
        decimal = subst IsDecimal (sym (whole text)) writes.decimal;
        whole = inl refl;
      },
      subst (λ (t : List ℕ). decimal_size t < 2 ^ 127) (sym (whole text)) (omega arith),
    )
    (ap (λ t. number_lexeme (decimal_value t)) (whole text) ∙ ap number_lexeme writes.value)

-- what is printed for a number within 127 bits
pub HasLexemes-number : (z : ℤ) → unsigned_abs z < 2 ^ 127 → HasLexemes (signed_decimal z) (number_lexeme z ∷ [])
HasLexemes-number z small = number_text (signed_decimal z) z (signed_decimal_writes z (omega arith)) small
