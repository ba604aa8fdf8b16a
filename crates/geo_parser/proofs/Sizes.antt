-- How long the lexemes of a text are when they are written out again.
use Rattle.std.proofs.Common.{◌≡◌, ℕ, zero, suc, ◌+◌, ◌-◌, ◌*◌, ◌^◌, ◌≤◌, ◌<◌, Bool, true, false, List, [], ◌∷◌, length, map, drop, arith, length-drop, length-take}
use Rattle.std.specs.Prelude.{pos, neg_ℤ, if◌then◌else◌, slice_range, sum_by}
use Rattle.std.specs.Fmt.{decimal, signed_decimal}
use Rattle.std.specs.Str.Parse.{IsNumeral, digits_value, starts_with_minus}
use Rattle.std.proofs.lemmas.Fmt.{length-decimal-le_wide}
use Rattle.std.proofs.lemmas.Int.Digits.{digits_value-lt}
use Rattle.std.proofs.lemmas.List.Sums.{sum_by-cons}
use Rattle.geo_base.specs.Decimals.{IsDecimal, decimal_size, decimal_value}
use Rattle.geo_lexer.specs.declared.token_types.Kind.{Kind}
use Rattle.geo_lexer.specs.declared.token_types.Kind.TheVariants.{Word, Number, Open, Close}
use Rattle.geo_lexer.specs.declared.token_types.Token.{Token}
use Rattle.geo_lexer.specs.Lexemes.{lexeme_at, lexeme_of}
use Rattle.geo_lexer.specs.Tokens.{AreTokens, IsTokenAt}
use Rattle.geo_lexer.proofs.TokenListLemmas.{IsTokenAt-within}
use Rattle.geo_program.proofs.Lengths.{lexeme_size}

-- digits are no fewer than those of the number that they write
decimal_short : (ds : List ℕ) → IsNumeral 10 ds → digits_value 10 ds < 2 ^ 127 → length (decimal (digits_value 10 ds)) ≤ length ds
decimal_short ds numeral small =
    length-decimal-le_wide (length ds) (digits_value 10 ds) numeral.0 (digits_value-lt 10 ds numeral.1) (omega (arith, small))

-- with a sign there is at most one byte more
negative_short : (n k : ℕ) → length (decimal n) ≤ k → length (signed_decimal (neg_ℤ (pos n))) ≤ k + 1
negative_short zero k h = omega arith
negative_short (suc n) k h = omega arith

-- a number's canonical decimal is no longer than a text that writes it
pub number_short : (bytes : List ℕ) → IsDecimal bytes → decimal_size bytes < 2 ^ 127 → length (signed_decimal (decimal_value bytes)) ≤ length bytes
number_short bytes = by (starts_with_minus bytes)
  where
    by : (b : Bool) → IsNumeral 10 (if b then drop 1 bytes else bytes) → digits_value 10 (if b then drop 1 bytes else bytes) < 2 ^ 127
        → length (signed_decimal (if b then neg_ℤ (pos (digits_value 10 (if b then drop 1 bytes else bytes))) else pos (digits_value 10 (if b then drop 1 bytes else bytes)))) ≤ length bytes
    by true numeral small =
        omega (arith, negative_short (digits_value 10 (drop 1 bytes)) (length (drop 1 bytes)) (decimal_short (drop 1 bytes) numeral small), length-drop 1 bytes, numeral.0)
    by false numeral small = decimal_short bytes numeral small

-- the part of a text between two places has as many bytes as lie between them
length_range : (bytes : List ℕ) (start end : ℕ) → start < end → end ≤ length bytes → length (slice_range bytes start end) + start ≡ end
length_range bytes start end some within = omega (arith, length-take (end - start) (drop start bytes), length-drop start bytes)

-- a token's lexeme and a space have at most twice as many bytes as the token
lexeme_short : (bytes : List ℕ) (kind : Kind) (start end : ℕ) → IsTokenAt bytes kind start end → lexeme_size (lexeme_at bytes kind start end) + 2 * start ≤ 2 * end
lexeme_short bytes Word start end at = omega (arith, length_range bytes start end at.0.some at.0.within, at.0.some)
lexeme_short bytes Number start end at =
    omega (arith, number_short (slice_range bytes start end) at.0.decimal at.1, length_range bytes start end at.0.some at.0.within, at.0.some)
lexeme_short bytes Open start end at = omega (arith, at.one)
lexeme_short bytes Close start end at = omega (arith, at.one)

-- all lexemes of a text
pub lexemes_short : (bytes : List ℕ) (start end : ℕ) (tokens : List Token) → AreTokens bytes start tokens end → sum_by lexeme_size (map (lexeme_of bytes) tokens) + 2 * start ≤ 2 * end
lexemes_short bytes start end [] are = omega (arith, are)
lexemes_short bytes start end (t ∷ ts) are =
    omega (arith, sum_by-cons lexeme_size (lexeme_of bytes t) (map (lexeme_of bytes) ts), lexeme_short bytes t.kind t.start t.end are.1, lexemes_short bytes t.end end ts are.2, are.0.0)

-- a text has no more tokens than bytes
pub tokens_few : (bytes : List ℕ) (start end : ℕ) (tokens : List Token) → AreTokens bytes start tokens end → start + length tokens ≤ end
tokens_few bytes start end [] are = omega (arith, are)
tokens_few bytes start end (t ∷ ts) are = omega (arith, (IsTokenAt-within bytes t.kind t.start t.end are.1).0, tokens_few bytes t.end end ts are.2, are.0.0)
