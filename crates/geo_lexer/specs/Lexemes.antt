-- What tokens mean: a text without its blanks, comments and ways of writing numbers.
use Rattle.std.specs.Prelude.{◌≡◌, ◌≤◌, ◌<◌, ◌^◌, ℕ, ℤ, IsTrue, None, List, length, map, slice_index, slice_range, unsigned_abs}
use Rattle.std.specs.List.{AllPass}
use Rattle.geo_base.specs.Decimals.{decimal_value}
use Rattle.geo_lexer.specs.declared.token_types.Kind.{Kind}
use Rattle.geo_lexer.specs.declared.token_types.Kind.TheVariants.{Word, Number, Open, Close}
use Rattle.geo_lexer.specs.declared.token_types.Token.{Token}
use Rattle.geo_lexer.specs.Bytes.{is_letter, is_word_byte}
use Rattle.geo_lexer.specs.Tokens.{IsLexed}

-- a word, a number or a brace
pub data Lexeme : Type 0 where
  word_lexeme : List ℕ → Lexeme
  number_lexeme : ℤ → Lexeme
  open_brace : Lexeme
  close_brace : Lexeme

-- what stands in the text from one place to another
abbrev pub lexeme_at : List ℕ → Kind → ℕ → ℕ → Lexeme
lexeme_at bytes Word start end = word_lexeme (slice_range bytes start end)
lexeme_at bytes Number start end = number_lexeme (decimal_value (slice_range bytes start end))
lexeme_at bytes Open start end = open_brace
lexeme_at bytes Close start end = close_brace

-- what a token means
abbrev pub lexeme_of : List ℕ → Token → Lexeme
lexeme_of bytes t = lexeme_at bytes t.kind t.start t.end

-- the whole text is these lexemes
pub record HasLexemes (bytes : List ℕ) (lexemes : List Lexeme) : Type 0 where
  pub tokens : List Token
  pub lexed : IsLexed bytes tokens None
  pub meant : map (lexeme_of bytes) tokens ≡ lexemes

-- a letter and then letters, digits and `_`, at most 64 bytes in all
pub record IsWord (text : List ℕ) : Type 0 where
  pub first : IsTrue (is_letter (slice_index text 0))
  pub all : AllPass is_word_byte text
  pub short : length text ≤ 64

-- a lexeme that a text may have: a word of at most 64 bytes, a number within 127 bits, or a brace
abbrev pub MayStand : Lexeme → Type 0
MayStand (word_lexeme text) = IsWord text
MayStand (number_lexeme n) = unsigned_abs n < 2 ^ 127
MayStand open_brace = Unit {0}
MayStand close_brace = Unit {0}
