-- The words of the language.
use Rattle.std.specs.Prelude.{ℕ, ◌≤◌, IsTrue, Contains, codes, List, [], ◌∷◌, ◌++◌, length, map, slice_index}
use Rattle.std.specs.List.{AllPass}
use Rattle.geo_program.specs.Rows.{CommandRow, command_rows}
use Rattle.geo_lexer.specs.Bytes.{is_letter, is_word_byte}

-- the words that begin a command
abbrev pub command_words : List (List ℕ)
command_words = codes "assume" ∷ map (λ (row : CommandRow). row.word) command_rows

-- the words that begin a statement
abbrev pub statement_words : List (List ℕ)
statement_words =
    codes "equal" ∷ codes "collinear" ∷ codes "parallel" ∷ codes "perpendicular" ∷ codes "identical" ∷ codes "midpoint"
    ∷ codes "same_length" ∷ codes "harmonic" ∷ codes "concyclic" ∷ []

-- the words that begin an expression
abbrev pub expression_words : List (List ℕ)
expression_words =
    codes "signed_area3" ∷ codes "pythagoras_difference3" ∷ codes "sratio" ∷ codes "neg" ∷ codes "sum" ∷ codes "sub"
    ∷ codes "mult" ∷ codes "div" ∷ []

-- the words that no name may be
abbrev pub reserved_words : List (List ℕ)
reserved_words = command_words ++ statement_words ++ expression_words ++ codes "prove" ∷ []

-- a letter and then letters, digits and `_`, at most 64 bytes in all, and no reserved word
pub record IsNameText (text : List ℕ) : Type 0 where
  pub first : IsTrue (is_letter (slice_index text 0))
  pub rest : AllPass is_word_byte text
  pub short : length text ≤ 64
  pub free : Contains reserved_words text → ⊥
