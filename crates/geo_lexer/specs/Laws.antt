-- The laws that stand on the functions of `laws`.
use Rattle.std.specs.Prelude.{◌≡◌, ℕ, ◌<◌, ◌≤◌, List, Option, Some, All, AllPairs, length}
use Rattle.geo_lexer.specs.declared.token_types.Fault.{Fault}
use Rattle.geo_lexer.specs.declared.token_types.Token.{Token}
use Rattle.geo_lexer.specs.Lexemes.{Lexeme, HasLexemes, MayStand}
use Rattle.geo_lexer.specs.Tokens.{IsBefore, IsLexed, IsTokenAt, IsWithin}

-- two lexings of one text have the same tokens and the same fault
abbrev pub LexingIsUnique : Type 0
LexingIsUnique =
    (bytes : List ℕ) (ts us : List Token) (f g : Option Fault)
    → IsLexed bytes ts f → IsLexed bytes us g → (ts ≡ us) × (f ≡ g)

-- each text has a lexing
abbrev pub TextsAreLexed : Type 0
TextsAreLexed = (bytes : List ℕ) → (tokens : List Token) × (fault : Option Fault) × IsLexed bytes tokens fault

-- a text has one list of lexemes
abbrev pub LexemesAreUnique : Type 0
LexemesAreUnique =
    (bytes : List ℕ) (xs ys : List Lexeme) → HasLexemes bytes xs → HasLexemes bytes ys → xs ≡ ys

-- each lexeme of a text may stand in one
abbrev pub LexemesAreSmall : Type 0
LexemesAreSmall = (bytes : List ℕ) (xs : List Lexeme) → HasLexemes bytes xs → All MayStand xs

-- each token of a lexing stands at its place, has one or more bytes, all of the text, and ends before the later ones begin; a fault begins
-- within the text, after every token
pub record TokensAreWithin : Type 0 where
  pub at_places : (bytes : List ℕ) (tokens : List Token) (fault : Option Fault) → IsLexed bytes tokens fault
      → All (λ t. IsTokenAt bytes t.kind t.start t.end) tokens
  pub within : (bytes : List ℕ) (tokens : List Token) (fault : Option Fault) → IsLexed bytes tokens fault → All (IsWithin bytes) tokens
  pub in_order : (bytes : List ℕ) (tokens : List Token) (fault : Option Fault) → IsLexed bytes tokens fault → AllPairs IsBefore tokens
  pub fault_within : (bytes : List ℕ) (tokens : List Token) (fault : Fault) → IsLexed bytes tokens (Some fault) → fault.place < length bytes
  pub fault_after : (bytes : List ℕ) (tokens : List Token) (fault : Fault) → IsLexed bytes tokens (Some fault)
      → All (λ t. t.end ≤ fault.place) tokens
