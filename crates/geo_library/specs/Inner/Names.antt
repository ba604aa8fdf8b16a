-- The `with` line as the code reads it.
use Rattle.std.specs.Prelude.{◌≡◌, ℕ, All, codes, List, [], ◌∷◌, ◌++◌, map}
use Rattle.std.specs.List.{flat_map}
use Rattle.geo_lexer.specs.Lexemes.{IsWord}
use Rattle.geo_library.specs.Inputs.{BeginsWithLog, BeginsWithNames}

-- some log is followed by this rest
pub record BeginsWithSome (bytes rest : List ℕ) : Type 0 where
  pub log : List ℕ
  pub begins : BeginsWithLog bytes log rest

-- no line of names begins
abbrev pub HasNoNames : List ℕ → Type 0
HasNoNames rest = (texts : List (List ℕ)) (written : List ℕ) → BeginsWithNames rest texts written → ⊥
