-- Where the tokens of a text stand.
use Rattle.std.specs.Prelude.{◌≡◌, ℕ, ◌+◌, ◌<◌, ◌≤◌, ◌^◌, ◌⊎◌, IsTrue, Bool, true, false, Option, Some, None, List, [], ◌∷◌, length, drop, slice_index, slice_range}
use Rattle.std.specs.List.{AllPass}
use Rattle.geo_base.specs.Decimals.{IsDecimal, decimal_size}
use Rattle.geo_lexer.specs.declared.token_types.Fault.{Fault}
use Rattle.geo_lexer.specs.declared.token_types.Kind.{Kind}
use Rattle.geo_lexer.specs.declared.token_types.Kind.TheVariants.{Word, Number, Open, Close}
use Rattle.geo_lexer.specs.declared.token_types.Token.{Token}
use Rattle.geo_lexer.specs.Bytes.{is_blank, is_brace, is_comment_start, is_digit, is_gap, is_letter, is_word_byte}

-- blanks and whole comments stand from one place to another
abbrev pub IsGap : List ℕ → ℕ → ℕ → Type 0
IsGap bytes start end = (start ≤ end) × (end ≤ length bytes) × IsTrue (is_gap false false (slice_range bytes start end))

-- from this place on only blanks and comments follow, of which the last may have no line feed
abbrev pub IsLastGap : List ℕ → ℕ → Type 0
IsLastGap bytes start = (start ≤ length bytes) × IsTrue (is_gap true false (drop start bytes))

-- the text ends at this place, or its byte there fails the test
abbrev pub StopsAt : (ℕ → Bool) → List ℕ → ℕ → Type 0
StopsAt test bytes end = (end ≡ length bytes) ⊎ ((end < length bytes) × (test (slice_index bytes end) ≡ false))

-- a letter and then letters, digits and `_`, as many as there are
pub record IsWordAt (bytes : List ℕ) (start end : ℕ) : Type 0 where
  pub some : start < end
  pub within : end ≤ length bytes
  pub first : IsTrue (is_letter (slice_index bytes start))
  pub all : AllPass is_word_byte (slice_range bytes start end)
  pub whole : StopsAt is_word_byte bytes end

-- an optional `-` and digits, as many as there are
pub record IsNumberAt (bytes : List ℕ) (start end : ℕ) : Type 0 where
  pub some : start < end
  pub within : end ≤ length bytes
  pub decimal : IsDecimal (slice_range bytes start end)
  pub whole : StopsAt is_digit bytes end

-- one byte, which is b
pub record IsByteAt (b : ℕ) (bytes : List ℕ) (start end : ℕ) : Type 0 where
  pub one : end ≡ start + 1
  pub within : end ≤ length bytes
  pub same : slice_index bytes start ≡ b

-- a token stands at its place: a word of at most 64 bytes, a number within 127 bits, or a brace
abbrev pub IsTokenAt : List ℕ → Kind → ℕ → ℕ → Type 0
IsTokenAt bytes Word start end = IsWordAt bytes start end × (end ≤ start + 64)
IsTokenAt bytes Number start end = IsNumberAt bytes start end × (decimal_size (slice_range bytes start end) < 2 ^ 127)
IsTokenAt bytes Open start end = IsByteAt 123 bytes start end
IsTokenAt bytes Close start end = IsByteAt 125 bytes start end

-- from a place on, the tokens stand one after another with gaps before them, and the last one ends at `end`
abbrev pub AreTokens : List ℕ → ℕ → List Token → ℕ → Type 0
AreTokens bytes start [] end = start ≡ end
AreTokens bytes start (t ∷ ts) end = IsGap bytes start t.start × IsTokenAt bytes t.kind t.start t.end × AreTokens bytes t.end ts end

-- the byte at this place begins no token and no gap:
-- it is no letter, no digit, no brace, no blank, no `%`, and no `-` with a digit after it
pub record BeginsNothing (bytes : List ℕ) (place : ℕ) : Type 0 where
  pub within : place < length bytes
  pub no_word : is_letter (slice_index bytes place) ≡ false
  pub no_digit : is_digit (slice_index bytes place) ≡ false
  pub no_brace : is_brace (slice_index bytes place) ≡ false
  pub no_blank : is_blank (slice_index bytes place) ≡ false
  pub no_comment : is_comment_start (slice_index bytes place) ≡ false
  pub no_minus : slice_index bytes place ≡ 45 → place + 1 < length bytes → is_digit (slice_index bytes (place + 1)) ≡ false

-- a number past `2^127 - 1` in absolute value
pub record IsWideNumberAt (bytes : List ℕ) (place : ℕ) : Type 0 where
  pub end : ℕ
  pub number : IsNumberAt bytes place end
  pub wide : 2 ^ 127 ≤ decimal_size (slice_range bytes place end)

-- a word of more than 64 bytes
pub record IsLongWordAt (bytes : List ℕ) (place : ℕ) : Type 0 where
  pub end : ℕ
  pub word : IsWordAt bytes place end
  pub long : place + 64 < end

-- what stands at this place is no token: 1, a byte that begins none; 2, a wide number; 3, a long word
abbrev pub IsFaultAt : List ℕ → ℕ → ℕ → Type 0
IsFaultAt bytes refusal place =
    ((refusal ≡ 1) × BeginsNothing bytes place) ⊎ ((refusal ≡ 2) × IsWideNumberAt bytes place) ⊎ ((refusal ≡ 3) × IsLongWordAt bytes place)

-- after the tokens only a last gap follows, or a gap and a fault
abbrev pub IsLexedEnd : List ℕ → ℕ → Option Fault → Type 0
IsLexedEnd bytes end None = IsLastGap bytes end
IsLexedEnd bytes end (Some fault) = IsGap bytes end fault.place × IsFaultAt bytes fault.refusal fault.place

-- the text has these tokens, up to its end or to the first fault
pub record IsLexed (bytes : List ℕ) (tokens : List Token) (fault : Option Fault) : Type 0 where
  pub end : ℕ
  pub tokens_are : AreTokens bytes 0 tokens end
  pub end_is : IsLexedEnd bytes end fault

-- a token has one or more bytes, all of the text
abbrev pub IsWithin : List ℕ → Token → Type 0
IsWithin bytes t = (t.start < t.end) × (t.end ≤ length bytes)

-- a token ends before another one begins
abbrev pub IsBefore : Token → Token → Type 0
IsBefore t u = t.end ≤ u.start
