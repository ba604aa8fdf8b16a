-- What is due behind the first word of a command, of a statement and of an expression.
use Rattle.std.specs.Prelude.{ℕ, ◌+◌, codes, Bool, true, false, Option, List, [], ◌∷◌, ◌++◌, drop, map, option_map, find}
use Rattle.geo_parser.specs.Texts.{is_text}
use Rattle.geo_program.specs.Rows.{ArgumentKind, CommandRow, command_rows, condition_rows, point_kind, line_kind, number_kind, side_kind}
use Rattle.geo_program.specs.declared.names.NameKind.{NameKind}
use Rattle.geo_program.specs.declared.names.NameKind.TheVariants.{Point, Line}

-- what may stand at a place
pub data Slot : Type 0 where
  -- a command, or `prove`
  command_slot : Slot
  -- the new name of a command: what it names, and how many points the command makes
  new_name_slot : NameKind → ℕ → Slot
  -- the word of a condition that is assumed
  condition_slot : Slot
  -- the first of two numbers, or what may stand without them
  sketch_slot : Slot
  -- the second of the two numbers
  second_number_slot : Slot
  -- a declared name of this kind
  name_slot : NameKind → Slot
  -- an expression inside so many braces, and whether it may have a ratio
  expression_slot : ℕ → Bool → Slot
  -- `{`, the brace of this level inside an expression; level 0 is not counted
  open_slot : ℕ → Slot
  -- `}`
  close_slot : Slot
  -- the word of a statement
  statement_slot : Slot
  -- nothing
  end_slot : Slot

-- a declared point
abbrev pub a_point : Slot
a_point = name_slot Point

-- a declared line
abbrev pub a_line : Slot
a_line = name_slot Line

-- the number of a step
abbrev pub a_number : Slot
a_number = expression_slot 0 false

-- a word, and what is due behind it
abbrev pub Due : Type 0
Due = List ℕ × List Slot

-- what is due at an argument of this kind
abbrev pub slot_of : ArgumentKind → Slot
slot_of point_kind = a_point
slot_of line_kind = a_line
slot_of number_kind = a_number
slot_of side_kind = expression_slot 0 true

-- a command with a new name: its word, the name, and what is due behind it
abbrev pub due_of : CommandRow → Due
due_of row = (row.word, new_name_slot row.made row.points ∷ map slot_of row.arguments)

-- the commands that have a new name; two numbers may follow that of a point
abbrev pub naming_commands : List Due
naming_commands = (codes "point", new_name_slot Point 1 ∷ sketch_slot ∷ []) ∷ map due_of (drop 1 command_rows)

-- the commands
abbrev pub commands : List Due
commands = (codes "assume", condition_slot ∷ []) ∷ naming_commands

-- the conditions that may be assumed
abbrev pub conditions : List Due
conditions = map (λ (row : List ℕ × List ArgumentKind). (row.0, map slot_of row.1)) condition_rows

-- `{ e }`, a side of an equation
abbrev pub side : List Slot
side = open_slot 0 ∷ expression_slot 0 true ∷ close_slot ∷ []

-- the statements
abbrev pub statements : List Due
statements =
    (codes "equal", side ++ side)
    ∷ (codes "collinear", a_point ∷ a_point ∷ a_point ∷ [])
    ∷ (codes "parallel", a_point ∷ a_point ∷ a_point ∷ a_point ∷ [])
    ∷ (codes "perpendicular", a_point ∷ a_point ∷ a_point ∷ a_point ∷ [])
    ∷ (codes "identical", a_point ∷ a_point ∷ [])
    ∷ (codes "midpoint", a_point ∷ a_point ∷ a_point ∷ [])
    ∷ (codes "same_length", a_point ∷ a_point ∷ a_point ∷ a_point ∷ [])
    ∷ (codes "harmonic", a_point ∷ a_point ∷ a_point ∷ a_point ∷ [])
    ∷ (codes "concyclic", a_point ∷ a_point ∷ a_point ∷ a_point ∷ [])
    ∷ []

-- `{ e }` inside so many braces
abbrev pub part : ℕ → Bool → List Slot
part level ratios = open_slot (level + 1) ∷ expression_slot (level + 1) ratios ∷ close_slot ∷ []

-- the expressions that begin with a word, inside so many braces; the second part of `div` has no ratio
abbrev pub expressions : ℕ → Bool → List Due
expressions level ratios =
    (codes "signed_area3", a_point ∷ a_point ∷ a_point ∷ [])
    ∷ (codes "pythagoras_difference3", a_point ∷ a_point ∷ a_point ∷ [])
    ∷ (codes "sratio", a_point ∷ a_point ∷ a_point ∷ a_point ∷ [])
    ∷ (codes "neg", part level ratios)
    ∷ (codes "sum", part level ratios ++ part level ratios)
    ∷ (codes "sub", part level ratios ++ part level ratios)
    ∷ (codes "mult", part level ratios ++ part level ratios)
    ∷ (codes "div", part level ratios ++ part level false)
    ∷ []

-- what is due behind this word
abbrev pub due_behind : List ℕ → List Due → Option (List Slot)
due_behind word forms = option_map (λ d. d.1) (find (λ d. is_text d.0 word) forms)
