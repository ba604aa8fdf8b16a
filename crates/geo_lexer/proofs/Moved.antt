-- Tokens of a text that is a part of a longer one.
use Rattle.std.proofs.Common.{◌≡◌, ℕ, ◌+◌, ◌<◌, ◌≤◌, ◌^◌, Bool, true, false, List, [], ◌∷◌, ◌++◌, map, length, refl, ap, sym, ◌∙◌, subst, inl, inr, arith, length-append, get_or-append-add}
use Rattle.std.specs.List.{AllPass}
use Rattle.std.proofs.lemmas.List.{get_or_append_left, get_or_at}
use Rattle.geo_base.specs.Decimals.{IsDecimal, decimal_size, decimal_value}
use Rattle.geo_lexer.specs.declared.token_types.Kind.{Kind}
use Rattle.geo_lexer.specs.declared.token_types.Kind.TheVariants.{Word, Number, Open, Close}
use Rattle.geo_lexer.specs.declared.token_types.Token.{Token}
use Rattle.geo_lexer.specs.Bytes.{is_digit, is_gap, is_letter, is_word_byte}
use Rattle.geo_lexer.specs.Lexemes.{word_lexeme, number_lexeme, lexeme_at, lexeme_of}
use Rattle.geo_lexer.specs.Tokens.{AreTokens, IsByteAt, IsGap, IsLastGap, IsNumberAt, IsTokenAt, IsWordAt, StopsAt}
use Rattle.geo_lexer.proofs.Ranges.{drop-after, slice_range-after, slice_range-before}
use Rattle.geo_lexer.proofs.TokenListLemmas.{IsTokenAt-within}

-- ---- at the front of a longer text

-- a run stops at a byte that fails its test
StopsAt-before : (test : ℕ → Bool) (bytes more : List ℕ) (b end : ℕ) → test b ≡ false → StopsAt test bytes end → StopsAt test (bytes ++ b ∷ more) end
StopsAt-before test bytes more b end fails (inl ends) =
    inr (omega (arith, length-append bytes (b ∷ more)), ap test (get_or_at bytes b more 0 end (sym ends)) ∙ fails)
StopsAt-before test bytes more b end fails (inr stops) =
    inr (omega (arith, stops.0, length-append bytes (b ∷ more)), ap test (get_or_append_left bytes (b ∷ more) 0 end stops.0) ∙ stops.1)

IsWordAt-before : (bytes more : List ℕ) (b start end : ℕ) → is_word_byte b ≡ false → IsWordAt bytes start end → IsWordAt (bytes ++ b ∷ more) start end
IsWordAt-before bytes more b start end fails at =
    let some = at.some in
    let within = at.within in record {
      some = some;
      within = omega (arith, length-append bytes (b ∷ more));
      first = ap is_letter (get_or_append_left bytes (b ∷ more) 0 start (omega arith)) ∙ at.first;
      all = subst (AllPass is_word_byte) (sym (slice_range-before bytes (b ∷ more) start end (omega arith) within)) at.all;
      whole = StopsAt-before is_word_byte bytes more b end fails at.whole;
    }

IsNumberAt-before : (bytes more : List ℕ) (b start end : ℕ) → is_digit b ≡ false → IsNumberAt bytes start end → IsNumberAt (bytes ++ b ∷ more) start end
IsNumberAt-before bytes more b start end fails at =
    let some = at.some in
    let within = at.within in record {
      some = some;
      within = omega (arith, length-append bytes (b ∷ more));
      decimal = subst IsDecimal (sym (slice_range-before bytes (b ∷ more) start end (omega arith) within)) at.decimal;
      whole = StopsAt-before is_digit bytes more b end fails at.whole;
    }

IsByteAt-before : (c : ℕ) (bytes more : List ℕ) (start end : ℕ) → IsByteAt c bytes start end → IsByteAt c (bytes ++ more) start end
IsByteAt-before c bytes more start end at =
    let one = at.one in
    let within = at.within in record {
      one = one;
      within = omega (arith, length-append bytes more);
      same = get_or_append_left bytes more 0 start (omega arith) ∙ at.same;
    }

-- a byte that may follow any token: it is no part of a word or a number
pub record Separates (b : ℕ) : Type 0 where
  pub no_word : is_word_byte b ≡ false
  pub no_digit : is_digit b ≡ false

pub IsTokenAt-before : (bytes more : List ℕ) (b : ℕ) (kind : Kind) (start end : ℕ) → Separates b → IsTokenAt bytes kind start end → IsTokenAt (bytes ++ b ∷ more) kind start end
IsTokenAt-before bytes more b Word start end separates at =
    (IsWordAt-before bytes more b start end separates.no_word at.0, at.1)
IsTokenAt-before bytes more b Number start end separates at =
    let some = at.0.some in (
      IsNumberAt-before bytes more b start end separates.no_digit at.0,
      subst (λ (text : List ℕ). decimal_size text < 2 ^ 127) (sym (slice_range-before bytes (b ∷ more) start end (omega arith) at.0.within)) at.1,
    )
IsTokenAt-before bytes more b Open start end separates at = IsByteAt-before 123 bytes (b ∷ more) start end at
IsTokenAt-before bytes more b Close start end separates at = IsByteAt-before 125 bytes (b ∷ more) start end at

IsGap-before : (bytes more : List ℕ) (start end : ℕ) → IsGap bytes start end → IsGap (bytes ++ more) start end
IsGap-before bytes more start end gap =
    let within = gap.1 in (
      gap.0,
      omega (arith, length-append bytes more),
      ap (is_gap false false) (slice_range-before bytes more start end gap.0 within) ∙ gap.2,
    )

pub AreTokens-before : (bytes more : List ℕ) (b start end : ℕ) (ts : List Token) → Separates b → AreTokens bytes start ts end → AreTokens (bytes ++ b ∷ more) start ts end
AreTokens-before bytes more b start end [] separates are = are
AreTokens-before bytes more b start end (t ∷ ts) separates are = (
  IsGap-before bytes (b ∷ more) start t.start are.0,
  IsTokenAt-before bytes more b t.kind t.start t.end separates are.1,
  AreTokens-before bytes more b t.end end ts separates are.2,
)

lexeme_at-before : (bytes more : List ℕ) (kind : Kind) (start end : ℕ) → start ≤ end → end ≤ length bytes → lexeme_at (bytes ++ more) kind start end ≡ lexeme_at bytes kind start end
lexeme_at-before bytes more Word start end onward within = ap word_lexeme (slice_range-before bytes more start end onward within)
lexeme_at-before bytes more Number start end onward within = ap (λ text. number_lexeme (decimal_value text)) (slice_range-before bytes more start end onward within)
lexeme_at-before bytes more Open start end onward within = refl
lexeme_at-before bytes more Close start end onward within = refl

pub lexemes-before : (bytes more : List ℕ) (start end : ℕ) (ts : List Token) → AreTokens bytes start ts end → map (lexeme_of (bytes ++ more)) ts ≡ map (lexeme_of bytes) ts
lexemes-before bytes more start end [] are = refl
lexemes-before bytes more start end (t ∷ ts) are =
    let within = IsTokenAt-within bytes t.kind t.start t.end are.1 in
    let first = lexeme_at-before bytes more t.kind t.start t.end (omega arith) within.1 in
    let rest = lexemes-before bytes more t.end end ts are.2 in
    λ i. first i ∷ rest i

-- ---- at the back of a longer text

StopsAt-after : (test : ℕ → Bool) (front bytes : List ℕ) (end : ℕ) → StopsAt test bytes end → StopsAt test (front ++ bytes) (length front + end)
StopsAt-after test front bytes end (inl ends) = inl (omega (arith, length-append front bytes))
StopsAt-after test front bytes end (inr stops) =
    inr (omega (arith, stops.0, length-append front bytes), ap test (get_or-append-add front bytes end 0) ∙ stops.1)

IsWordAt-after : (front bytes : List ℕ) (start end : ℕ) → IsWordAt bytes start end → IsWordAt (front ++ bytes) (length front + start) (length front + end)
IsWordAt-after front bytes start end at =
    let some = at.some in
    let within = at.within in record {
      some = omega arith;
      within = omega (arith, length-append front bytes);
      first = ap is_letter (get_or-append-add front bytes start 0) ∙ at.first;
      all = subst (AllPass is_word_byte) (sym (slice_range-after front bytes start end)) at.all;
      whole = StopsAt-after is_word_byte front bytes end at.whole;
    }

IsNumberAt-after : (front bytes : List ℕ) (start end : ℕ) → IsNumberAt bytes start end → IsNumberAt (front ++ bytes) (length front + start) (length front + end)
IsNumberAt-after front bytes start end at =
    let some = at.some in
    let within = at.within in record {
      some = omega arith;
      within = omega (arith, length-append front bytes);
      decimal = subst IsDecimal (sym (slice_range-after front bytes start end)) at.decimal;
      whole = StopsAt-after is_digit front bytes end at.whole;
    }

IsByteAt-after : (c : ℕ) (front bytes : List ℕ) (start end : ℕ) → IsByteAt c bytes start end → IsByteAt c (front ++ bytes) (length front + start) (length front + end)
IsByteAt-after c front bytes start end at =
    let one = at.one in
    let within = at.within in record {
      one = omega arith;
      within = omega (arith, length-append front bytes);
      same = get_or-append-add front bytes start 0 ∙ at.same;
    }

pub IsTokenAt-after : (front bytes : List ℕ) (kind : Kind) (start end : ℕ) → IsTokenAt bytes kind start end → IsTokenAt (front ++ bytes) kind (length front + start) (length front + end)
IsTokenAt-after front bytes Word start end at = let short = at.1 in (IsWordAt-after front bytes start end at.0, omega arith)
IsTokenAt-after front bytes Number start end at = (
  IsNumberAt-after front bytes start end at.0,
  subst (λ (text : List ℕ). decimal_size text < 2 ^ 127) (sym (slice_range-after front bytes start end)) at.1,
)
IsTokenAt-after front bytes Open start end at = IsByteAt-after 123 front bytes start end at
IsTokenAt-after front bytes Close start end at = IsByteAt-after 125 front bytes start end at

IsGap-after : (front bytes : List ℕ) (start end : ℕ) → IsGap bytes start end → IsGap (front ++ bytes) (length front + start) (length front + end)
IsGap-after front bytes start end gap =
    let onward = gap.0 in
    let within = gap.1 in (
      omega arith,
      omega (arith, length-append front bytes),
      ap (is_gap false false) (slice_range-after front bytes start end) ∙ gap.2,
    )

-- a token so many places further on
abbrev pub moved : ℕ → Token → Token
moved n t = record { kind = t.kind; start = n + t.start; end = n + t.end }

pub AreTokens-after : (front bytes : List ℕ) (start end : ℕ) (ts : List Token) → AreTokens bytes start ts end
    → AreTokens (front ++ bytes) (length front + start) (map (moved (length front)) ts) (length front + end)
AreTokens-after front bytes start end [] are = ap (λ n. length front + n) are
AreTokens-after front bytes start end (t ∷ ts) are = (
  IsGap-after front bytes start t.start are.0,
  IsTokenAt-after front bytes t.kind t.start t.end are.1,
  AreTokens-after front bytes t.end end ts are.2,
)

lexeme_at-after : (front bytes : List ℕ) (kind : Kind) (start end : ℕ) → lexeme_at (front ++ bytes) kind (length front + start) (length front + end) ≡ lexeme_at bytes kind start end
lexeme_at-after front bytes Word start end = ap word_lexeme (slice_range-after front bytes start end)
lexeme_at-after front bytes Number start end = ap (λ text. number_lexeme (decimal_value text)) (slice_range-after front bytes start end)
lexeme_at-after front bytes Open start end = refl
lexeme_at-after front bytes Close start end = refl

pub lexemes-after : (front bytes : List ℕ) (ts : List Token) → map (lexeme_of (front ++ bytes)) (map (moved (length front)) ts) ≡ map (lexeme_of bytes) ts
lexemes-after front bytes [] = refl
lexemes-after front bytes (t ∷ ts) =
    let first = lexeme_at-after front bytes t.kind t.start t.end in
    let rest = lexemes-after front bytes ts in
    λ i. first i ∷ rest i

pub IsLastGap-after : (front bytes : List ℕ) (start : ℕ) → IsLastGap bytes start → IsLastGap (front ++ bytes) (length front + start)
IsLastGap-after front bytes start last =
    let within = last.0 in (
      omega (arith, length-append front bytes),
      ap (is_gap true false) (drop-after front bytes start) ∙ last.1,
    )
