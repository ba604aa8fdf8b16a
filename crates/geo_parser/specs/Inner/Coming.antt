-- What is still to be read of a text.
use Rattle.std.specs.Prelude.{ℕ, Option, Some, None, List, [], ◌∷◌, map}
use Rattle.geo_lexer.specs.declared.token_types.Fault.{Fault}
use Rattle.geo_lexer.specs.Lexemes.{Lexeme}
use Rattle.geo_parser.specs.Forms.{Slot}
use Rattle.geo_parser.specs.Refusals.{fault_at, first_fault}
use Rattle.geo_parser.specs.Slots.{Reading}

-- the tokens to come with their places, the length of the text, and what is refused behind the last token
pub record Coming : Type 0 where
  pub tokens : List (Lexeme × ℕ)
  pub end : ℕ
  pub stop : Option Fault

-- the lexemes to come
abbrev pub lexemes_of : Coming → List Lexeme
lexemes_of c = map (λ t. t.0) c.tokens

-- the next lexeme
abbrev pub next_lexeme : List (Lexeme × ℕ) → Option Lexeme
next_lexeme [] = None
next_lexeme (t ∷ ts) = Some t.0

-- what is to come behind the next token
abbrev pub tail : List (Lexeme × ℕ) → List (Lexeme × ℕ)
tail [] = []
tail (t ∷ ts) = ts

-- the next token is refused with this number; where none is left, what is no token is refused, or else the end of the text
abbrev pub fault_here : ℕ → List (Lexeme × ℕ) → ℕ → Option Fault → Fault
fault_here refusal (t ∷ ts) end stop = fault_at t.1 refusal
fault_here refusal [] end (Some fault) = fault
fault_here refusal [] end None = fault_at end refusal

-- the first refusal, where these things are due
abbrev pub fault_from : Reading → List Slot → Coming → Option Fault
fault_from r slots c = first_fault r slots c.tokens c.end c.stop
