-- Well-formed programs: names are declared once and used only after their command.
use Rattle.std.specs.Prelude.{◌≡◌, ℕ, suc, ◌<◌, ◌≤◌, true, false, All, Contains, Some, None, List, [], ◌∷◌, drop, length, map, sum_by, take}
use Rattle.geo_program.specs.declared.commands.Command.{Command}
use Rattle.geo_program.specs.declared.names.Name.{Name}
use Rattle.geo_program.specs.declared.names.NameKind.{NameKind}
use Rattle.geo_program.specs.declared.names.NameKind.TheVariants.{Point, Param, Line}
use Rattle.geo_program.specs.declared.statements.Statement.{Statement}
use Rattle.geo_program.specs.Expressions.{IsExpression, nesting}
use Rattle.geo_program.specs.Forms.{Argument, point_argument, line_argument, number_argument, side_argument, CommandForm, command_form, statement_form, IsStored, AreSidesStored}
use Rattle.geo_program.specs.Words.{IsNameText}
use Rattle.geo_terms.specs.Stores.{Store}

-- the parts of a program: its names, the store of its terms, its commands and its statement
pub record Source : Type 0 where
  pub names : List Name
  pub nodes : Store
  pub commands : List Command
  pub statement : Statement

-- how many points, parameters and lines are declared
pub record Scope : Type 0 where
  pub points : ℕ
  pub params : ℕ
  pub lines : ℕ

-- with one more name of this kind
abbrev pub declare : NameKind → Scope → Scope
declare Point s = record s { points = suc s.points }
declare Param s = record s { params = suc s.params }
declare Line s = record s { lines = suc s.lines }

-- nothing is declared
abbrev pub empty_scope : Scope
empty_scope = record { points = 0; params = 0; lines = 0 }

-- the argument names what is declared; a step's number has no ratio, and braces stand at most 128 deep
abbrev pub IsArgument : Scope → Argument → Type 0
IsArgument s (point_argument a) = a.0 < s.points
IsArgument s (line_argument a) = a.0 < s.lines
IsArgument s (number_argument e) = IsExpression s.points s.params false e × (nesting e ≤ 128)
IsArgument s (side_argument e) = IsExpression s.points s.params true e × (nesting e ≤ 128)

-- what the names declare
abbrev pub scope_of : Scope → List Name → Scope
scope_of s [] = s
scope_of s (name ∷ names) = scope_of (declare name.kind s) names

-- the kind of the name that a command makes, if it makes one
abbrev pub kinds_made : CommandForm → List NameKind
kinds_made f = elim f.made [ None ↦ [] | Some kind ↦ kind ∷ [] ]

-- the name that a command makes, the first of those that are left, if it makes one
abbrev pub own_names : CommandForm → List Name → List Name
own_names f names = take (length (kinds_made f)) names

-- the names behind it
abbrev pub later_names : CommandForm → List Name → List Name
later_names f names = drop (length (kinds_made f)) names

-- the command's own name is of the kind that it makes, and its arguments name what is declared before it
pub record IsCommand (nodes : Store) (s : Scope) (own : List Name) (command : Command) : Type 0 where
  pub named : map (λ n. n.kind) own ≡ kinds_made (command_form nodes command)
  pub arguments : All (IsArgument s) (command_form nodes command).arguments
  pub stored : IsStored nodes command

-- the commands declare the names one after another
abbrev pub AreCommands : Store → Scope → List Name → List Command → Type 0
AreCommands nodes s names [] = names ≡ []
AreCommands nodes s names (command ∷ commands) =
    IsCommand nodes s (own_names (command_form nodes command) names) command
    × AreCommands nodes (scope_of s (own_names (command_form nodes command) names)) (later_names (command_form nodes command) names) commands

-- no name is equal to one after it
abbrev pub AllDiffer : List Name → Type 0
AllDiffer [] = Unit {0}
AllDiffer (name ∷ names) = (Contains (map (λ n. n.text) names) name.text → ⊥) × AllDiffer names

-- a well-formed program: at most 512 points are made, those of constructions counted
pub record IsWellFormed (p : Source) : Type 0 where
  pub names : All (λ n. IsNameText n.text) p.names
  pub differ : AllDiffer p.names
  pub commands : AreCommands p.nodes empty_scope p.names p.commands
  pub few : sum_by (λ c. (command_form p.nodes c).points) p.commands ≤ 512
  pub statement : All (IsArgument (scope_of empty_scope p.names)) (statement_form p.nodes p.statement).arguments
  pub sides : AreSidesStored p.nodes p.statement
