-- What is due behind the words of the commands and statements of a program.
use Rattle.std.proofs.Common.{◌≡◌, ℕ, Bool, true, false, List, [], ◌∷◌, ◌++◌, Option, Some, None, is_some, codes, refl}
use Rattle.std.specs.List.{flat_map}
use Rattle.geo_program.specs.Forms.{command_form, statement_form}
use Rattle.geo_program.specs.declared.commands.Command.{Command}
use Rattle.geo_program.specs.declared.commands.Command.TheVariants.{Point, AssumeDifferent, AssumeNotCollinear, AssumeNotParallel}
use Rattle.geo_program.specs.declared.names.NameKind.{NameKind}
use Rattle.geo_program.specs.declared.statements.Statement.{Statement}
use Rattle.geo_program.specs.declared.statements.Statement.TheVariants as statement
use Rattle.geo_terms.specs.Stores.{Store}
use Rattle.geo_parser.specs.Forms.{Slot, commands, condition_slot, conditions, due_behind, new_name_slot, sketch_slot, statements}
use Rattle.geo_parser.specs.Inner.Reads.{argument_slots}
use Rattle.geo_parser.specs.Texts.{is_text}

-- the command is `point`
abbrev pub is_point : Command → Bool
is_point Point = true
is_point _ = false

-- two numbers may follow the name of a point
abbrev pub sketch_slots : Bool → List Slot
sketch_slots true = sketch_slot ∷ []
sketch_slots false = []

-- what is due behind the arguments of a command
abbrev pub last_slots : Command → List Slot
last_slots c = sketch_slots (is_point c)

-- what is due behind the word of a command: the word of a condition, or a new name and then these
abbrev pub first_slots : Option (List ℕ) → Option NameKind → ℕ → List Slot → List Slot
first_slots (Some condition) made points behind = condition_slot ∷ []
first_slots None (Some kind) points behind = new_name_slot kind points ∷ behind
first_slots None None points behind = behind

-- what is due behind the new name or the word of the condition
abbrev pub slots_of : Store → Command → List Slot
slots_of nodes c = flat_map argument_slots (command_form nodes c).arguments ++ last_slots c

pub command_due_behind : (nodes : Store) (c : Command)
    → Some (first_slots (command_form nodes c).condition (command_form nodes c).made (command_form nodes c).points (slots_of nodes c)) ≡ due_behind (command_form nodes c).word commands
command_due_behind nodes Point = refl
command_due_behind nodes _ = refl

-- what is due behind the word of a condition, which makes nothing
abbrev pub IsDueBehind : Option (List ℕ) → Option NameKind → ℕ → List Slot → Type 0
IsDueBehind None made points slots = is_some made ≡ true
IsDueBehind (Some word) made points slots = (Some slots ≡ due_behind word conditions) × (made ≡ None) × (points ≡ 0)

pub condition_due_behind : (nodes : Store) (c : Command) → IsDueBehind (command_form nodes c).condition (command_form nodes c).made (command_form nodes c).points (slots_of nodes c)
condition_due_behind nodes (AssumeDifferent a b) = (refl, refl, refl)
condition_due_behind nodes (AssumeNotCollinear a b c) = (refl, refl, refl)
condition_due_behind nodes (AssumeNotParallel a b c d) = (refl, refl, refl)
condition_due_behind nodes _ = refl

-- no command has the word `prove`
pub command_is_no_prove : (nodes : Store) (c : Command) → is_text (command_form nodes c).word (codes "prove") ≡ false
command_is_no_prove nodes Point = refl
command_is_no_prove nodes _ = refl

-- what is due behind the word of a statement
pub statement_due_behind : (nodes : Store) (s : Statement) → Some (flat_map argument_slots (statement_form nodes s).arguments) ≡ due_behind (statement_form nodes s).word statements
statement_due_behind nodes (statement.Equal e f) = refl
statement_due_behind nodes (statement.Collinear a b c) = refl
statement_due_behind nodes (statement.Parallel a b c d) = refl
statement_due_behind nodes (statement.Perpendicular a b c d) = refl
statement_due_behind nodes (statement.Identical a b) = refl
statement_due_behind nodes (statement.Midpoint m a b) = refl
statement_due_behind nodes (statement.SameLength a b c d) = refl
statement_due_behind nodes (statement.Harmonic a b c d) = refl
statement_due_behind nodes (statement.Concyclic a b c d) = refl
