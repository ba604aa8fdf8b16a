-- The first token of a text that may not stand at its place.
use Rattle.std.specs.Prelude.{◌≡◌, ℕ, Option, Some, None, List, [], ◌∷◌, length, map, option_map}
use Rattle.geo_lexer.specs.declared.token_types.Fault.{Fault}
use Rattle.geo_lexer.specs.declared.token_types.Token.{Token}
use Rattle.geo_lexer.specs.Lexemes.{Lexeme, lexeme_of}
use Rattle.geo_lexer.specs.Tokens.{IsLexed}
use Rattle.geo_parser.specs.Forms.{Slot, command_slot}
use Rattle.geo_parser.specs.Slots.{refused, taken, Reading, beginning, next, refusal_at_end}

-- a refusal at its place
abbrev pub fault_at : ℕ → ℕ → Fault
fault_at place refusal = record { refusal = refusal; place = place }

-- what is refused behind the last token: what is no token, or the end of the text
abbrev pub end_fault : List Slot → ℕ → Option Fault → Option Fault
end_fault slots end (Some fault) = Some fault
end_fault slots end None = option_map (fault_at end) (refusal_at_end slots)

-- the first refusal, where these things are due and these tokens with their places are to come
abbrev pub first_fault : Reading → List Slot → List (Lexeme × ℕ) → ℕ → Option Fault → Option Fault
first_fault r slots [] end fault = end_fault slots end fault
first_fault r slots (t ∷ ts) end fault =
    elim (next r slots t.0) [ refused refusal ↦ Some (fault_at t.1 refusal) | taken s rest ↦ first_fault s rest ts end fault ]

-- the lexemes of tokens, with the places of the tokens
abbrev pub placed_lexemes : List ℕ → List Token → List (Lexeme × ℕ)
placed_lexemes bytes tokens = map (λ t. (lexeme_of bytes t, t.start)) tokens

-- this is the text's first refusal
pub record IsRefused (bytes : List ℕ) (fault : Fault) : Type 0 where
  pub tokens : List Token
  pub stop : Option Fault
  pub lexed : IsLexed bytes tokens stop
  pub first : first_fault beginning (command_slot ∷ []) (placed_lexemes bytes tokens) (length bytes) stop ≡ Some fault
