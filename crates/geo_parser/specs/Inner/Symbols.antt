-- What the next token means.
use Rattle.std.specs.Prelude.{ℕ, ◌<◌, ◌≤◌, ◌^◌, IsTrue, List, length, slice_index, unsigned_abs}
use Rattle.std.specs.List.{AllPass}
use Rattle.geo_lexer.specs.Bytes.{is_letter, is_word_byte}
use Rattle.geo_lexer.specs.Lexemes.{Lexeme, word_lexeme, number_lexeme, open_brace, close_brace}
use Rattle.geo_parser.specs.declared.cursor.Symbol.{Symbol}
use Rattle.geo_parser.specs.declared.cursor.Symbol.TheVariants.{Word, Number, Open, Close}
use Rattle.geo_parser.specs.declared.errors.Refusal.{Refusal}
use Rattle.geo_parser.specs.declared.errors.Refusal.TheVariants.{Expected, UnknownName, Redeclared, WrongKind, RatioNotAllowed, TooDeep, TooManyPoints, NoStatement, AfterStatement}

-- the lexeme that it is
abbrev pub symbol_lexeme : Symbol → Lexeme
symbol_lexeme (Word text) = word_lexeme text.now
symbol_lexeme (Number n) = number_lexeme n
symbol_lexeme Open = open_brace
symbol_lexeme Close = close_brace

-- a letter and then letters, digits and `_`, at most 64 bytes in all
pub record IsWord (text : List ℕ) : Type 0 where
  pub first : IsTrue (is_letter (slice_index text 0))
  pub rest : AllPass is_word_byte text
  pub short : length text ≤ 64

-- a word is one by its bytes, and a number is within 127 bits
abbrev pub IsSymbol : Symbol → Type 0
IsSymbol (Word text) = IsWord text.now
IsSymbol (Number n) = unsigned_abs n < 2 ^ 127
IsSymbol Open = Unit {0}
IsSymbol Close = Unit {0}

-- the number of a refusal
abbrev pub refusal_number : Refusal → ℕ
refusal_number Expected = 4
refusal_number UnknownName = 5
refusal_number Redeclared = 6
refusal_number WrongKind = 7
refusal_number RatioNotAllowed = 8
refusal_number TooDeep = 9
refusal_number TooManyPoints = 10
refusal_number NoStatement = 11
refusal_number AfterStatement = 12
