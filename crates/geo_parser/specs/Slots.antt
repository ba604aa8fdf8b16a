-- Which tokens may stand at a place: by what is due there, and by the names that are declared so far.
use Rattle.std.specs.Prelude.{ℕ, ◌+◌, Bool, ◌&&◌, not, nat_le, codes, Option, Some, None, List, [], ◌∷◌, ◌++◌, find, if◌then◌else◌}
use Rattle.std.specs.List.{list_any}
use Rattle.geo_lexer.specs.Lexemes.{Lexeme, word_lexeme, number_lexeme, open_brace, close_brace}
use Rattle.geo_program.specs.declared.names.Name.{Name}
use Rattle.geo_program.specs.declared.names.NameKind.{NameKind}
use Rattle.geo_program.specs.declared.names.NameKind.TheVariants.{Param}
use Rattle.geo_program.specs.Names.{is_kind}
use Rattle.geo_program.specs.Words.{reserved_words}
use Rattle.geo_parser.specs.Forms.{Slot, command_slot, new_name_slot, condition_slot, sketch_slot, second_number_slot, name_slot}
use Rattle.geo_parser.specs.Forms.{expression_slot, open_slot, close_slot, statement_slot, end_slot, commands, conditions, due_behind}
use Rattle.geo_parser.specs.Forms.{expressions, statements}
use Rattle.geo_parser.specs.Texts.{is_text}

-- the names that are declared, that of the command which is being read, and how many points the commands make up to it
pub record Reading : Type 0 where
  pub declared : List Name
  pub begun : List Name
  pub points : ℕ

-- nothing is read
abbrev pub beginning : Reading
beginning = record { declared = []; begun = []; points = 0 }

-- the command is at its end: its name is declared
abbrev pub completed : Reading → Reading
completed r = record r { declared = r.declared ++ r.begun; begun = [] }

-- a token is refused with a number, or it may stand at its place, and then other things are due
pub data Outcome : Type 0 where
  refused : ℕ → Outcome
  taken : Reading → List Slot → Outcome

-- the word is reserved
abbrev pub is_reserved : List ℕ → Bool
is_reserved word = list_any (is_text word) reserved_words

-- the declared name that the word is
abbrev pub declared_name : Reading → List ℕ → Option Name
declared_name r word = find (λ name. is_text name.text word) r.declared

-- a word where a name of this kind is due that is declared: 4 for a reserved word, 5 for one that is not declared, 7 for another kind
abbrev pub use_name : Reading → NameKind → List ℕ → List Slot → Outcome
use_name r kind word rest =
    if is_reserved word then refused 4
    else elim (declared_name r word) [ None ↦ refused 5 | Some name ↦ if is_kind name.kind kind then taken r rest else refused 7 ]

-- a word where a new name is due: 4 for a reserved word, 6 for a declared one, 10 where there are too many points
abbrev pub begin_name : Reading → NameKind → ℕ → List ℕ → List Slot → Outcome
begin_name r kind points word rest =
    if is_reserved word then refused 4
    else elim (declared_name r word) [
      | Some name ↦ refused 6
      | None ↦
          if nat_le (r.points + points) 512
          then taken (record r { begun = (record { text = word; kind = kind }) ∷ []; points = r.points + points }) rest
          else refused 10
    ]

-- what is due behind the word, or 4
abbrev pub follow : Reading → Option (List Slot) → List Slot → Outcome
follow r None rest = refused 4
follow r (Some slots) rest = taken r (slots ++ rest)

-- a word where an expression is due: 8 for `sratio` where no ratio may stand; a word that begins no expression is to be a parameter's name
abbrev pub begin_expression : Reading → ℕ → Bool → List ℕ → List Slot → Outcome
begin_expression r level ratios word rest =
    if is_text word (codes "sratio") && not ratios then refused 8
    else elim (due_behind word (expressions level ratios)) [ Some slots ↦ taken r (slots ++ rest) | None ↦ use_name r Param word rest ]

-- a word where a command or `prove` is due
abbrev pub begin_command : Reading → List ℕ → List Slot → Outcome
begin_command r word rest =
    if is_text word (codes "prove") then taken (completed r) (open_slot 0 ∷ statement_slot ∷ close_slot ∷ end_slot ∷ [])
    else follow (completed r) (due_behind word commands) (command_slot ∷ rest)

-- a brace where that of this level is due: 9 at the 129th level
abbrev pub open_level : Reading → ℕ → List Slot → Outcome
open_level r level rest = if nat_le level 128 then taken r rest else refused 9

-- what comes of a token where these things are due
abbrev pub next : Reading → List Slot → Lexeme → Outcome
next r [] lexeme = refused 12
next r (end_slot ∷ rest) lexeme = refused 12
next r (sketch_slot ∷ rest) (number_lexeme n) = taken r (second_number_slot ∷ rest)
next r (sketch_slot ∷ rest) lexeme = next r rest lexeme
next r (second_number_slot ∷ rest) (number_lexeme n) = taken r rest
next r (command_slot ∷ rest) (word_lexeme word) = begin_command r word rest
next r (new_name_slot kind points ∷ rest) (word_lexeme word) = begin_name r kind points word rest
next r (condition_slot ∷ rest) (word_lexeme word) = follow r (due_behind word conditions) rest
next r (name_slot kind ∷ rest) (word_lexeme word) = use_name r kind word rest
next r (expression_slot level ratios ∷ rest) (word_lexeme word) = begin_expression r level ratios word rest
next r (expression_slot level ratios ∷ rest) (number_lexeme n) = taken r rest
next r (open_slot level ∷ rest) open_brace = open_level r level rest
next r (close_slot ∷ rest) close_brace = taken r rest
next r (statement_slot ∷ rest) (word_lexeme word) = follow r (due_behind word statements) rest
next r _ _ = refused 4

-- what the end of the text is refused with: 11 where a command or `prove` is due, else 4; nothing where the program is complete
abbrev pub refusal_at_end : List Slot → Option ℕ
refusal_at_end [] = None
refusal_at_end (end_slot ∷ rest) = None
refusal_at_end (command_slot ∷ rest) = Some 11
refusal_at_end (sketch_slot ∷ rest) = refusal_at_end rest
refusal_at_end _ = Some 4
