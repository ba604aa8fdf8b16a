-- Reading line by line: what a reader of lines keeps, and what a call hands out.
use Rattle.std.specs.Prelude.{ℕ, Bool, true, false, List, [], ◌∷◌, ◌++◌, Option, option_map, Result, Ok, Err}
use Rattle.geo_base.specs.declared.next_line.NextLine.{NextLine}
use Rattle.geo_base.specs.declared.next_line.NextLine.TheVariants.{Line, Rest}

-- a reader of lines
pub record ReaderState : Type 0 where
  -- the most bytes that may be taken
  pub limit : ℕ
  -- how many bytes were taken since the reader was made
  pub taken : ℕ
  -- the bytes taken and not yet handed out
  pub waiting : List ℕ
  -- whether nothing more is handed out
  pub ended : Bool

abbrev pub line_feed : ℕ
line_feed = 10

-- the open bytes: those not yet handed out, followed by those left in the source, where these are told
abbrev pub open_bytes : List ℕ → Option (List ℕ) → Option (List ℕ)
open_bytes waiting left = option_map (λ rest. waiting ++ rest) left

-- the line or the rest
abbrev pub text_of : NextLine → List ℕ
text_of (Line line) = line
text_of (Rest rest) = rest

-- the answer is the rest, and no line
abbrev pub is_rest : NextLine → Bool
is_rest (Line line) = false
is_rest (Rest rest) = true

-- the bytes that an answer uses up: a line and its line feed, or the rest; an error hands out none
abbrev pub handed_out : {E : Type 0} → Result NextLine E → List ℕ
handed_out (Ok (Line line)) = line ++ line_feed ∷ []
handed_out (Ok (Rest rest)) = rest
handed_out (Err e) = []
