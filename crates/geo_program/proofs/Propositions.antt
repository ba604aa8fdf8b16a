-- That a program is well-formed is a proposition: there is one proof at most.
use Rattle.std.proofs.Common.{ℕ, Bool, true, false, List, [], ◌∷◌}
use Rattle.std.specs.Prelude.{All}
use Rattle.std.proofs.Math.Bool.{Bool-set}
use Rattle.std.proofs.Math.Nat.{ℕ_set}
use Rattle.std.proofs.Math.Bridge.{le_prop}
use Rattle.std.proofs.Math.Logic.{∥∥₁_elim}
use mathlib.Core.List.{is_set as List-set}
use mathlib.Core.Sum.{⊎_set}
use Rattle.geo_program.specs.declared.commands.Command.{Command}
use Rattle.geo_program.specs.declared.commands.Command.TheVariants.{Pratio, Tratio, Lratio, Weights}
use Rattle.geo_program.specs.declared.names.Name.{Name}
use Rattle.geo_program.specs.declared.names.NameKind.{NameKind}
use Rattle.geo_program.specs.declared.program_type.Program.{Program}
use Rattle.geo_program.specs.declared.statements.Statement.{Statement}
use Rattle.geo_program.specs.declared.statements.Statement.TheVariants as statement
use Rattle.geo_program.specs.Expressions.{IsExpression}
use Rattle.geo_program.specs.Forms.{Argument, point_argument, line_argument, number_argument, side_argument, command_form, IsStored, AreSidesStored}
use Rattle.geo_program.specs.Programs.{source_of}
use Rattle.geo_program.specs.WellFormed.{AllDiffer, AreCommands, IsArgument, IsCommand, IsWellFormed, Scope, Source, empty_scope, later_names, own_names, scope_of}
use Rattle.geo_program.specs.Words.{IsNameText}
use Rattle.geo_terms.specs.Stores.{Store}
use Rattle.geo_terms.specs.Trees.{Tree, integer_leaf, parameter_leaf, area_leaf, pythagoras_leaf, ratio_leaf, negation, addition, subtraction, multiplication, division}

pub IsNameText-prop : (text : List ℕ) → IsProp (IsNameText text)
IsNameText-prop text = hlevel (le_prop, Bool-set)

pub IsExpression-prop : (points params : ℕ) (ratios : Bool) (e : Tree) → IsProp (IsExpression points params ratios e)
IsExpression-prop points params ratios (integer_leaf n) = hlevel le_prop
IsExpression-prop points params ratios (parameter_leaf t) = hlevel le_prop
IsExpression-prop points params ratios (area_leaf a b c) = hlevel le_prop
IsExpression-prop points params ratios (pythagoras_leaf a b c) = hlevel le_prop
IsExpression-prop points params ratios (ratio_leaf a b c d) = hlevel (le_prop, Bool-set)
IsExpression-prop points params ratios (negation e) = IsExpression-prop points params ratios e
IsExpression-prop points params ratios (addition e f) = hlevel (IsExpression-prop points params ratios e, IsExpression-prop points params ratios f)
IsExpression-prop points params ratios (subtraction e f) = hlevel (IsExpression-prop points params ratios e, IsExpression-prop points params ratios f)
IsExpression-prop points params ratios (multiplication e f) = hlevel (IsExpression-prop points params ratios e, IsExpression-prop points params ratios f)
IsExpression-prop points params ratios (division e f) = hlevel (IsExpression-prop points params ratios e, IsExpression-prop points params false f)

pub IsArgument-prop : (s : Scope) (x : Argument) → IsProp (IsArgument s x)
IsArgument-prop s (point_argument a) = hlevel le_prop
IsArgument-prop s (line_argument a) = hlevel le_prop
IsArgument-prop s (number_argument e) = hlevel (le_prop, IsExpression-prop s.points s.params false e)
IsArgument-prop s (side_argument e) = hlevel (le_prop, IsExpression-prop s.points s.params true e)

arguments_prop : (s : Scope) (arguments : List Argument) → IsProp (All (IsArgument s) arguments)
arguments_prop s arguments = hlevel (IsArgument-prop s)

IsStored-prop : (nodes : Store) (command : Command) → IsProp (IsStored nodes command)
IsStored-prop nodes (Pratio w u v r) = hlevel le_prop
IsStored-prop nodes (Tratio u v r) = hlevel le_prop
IsStored-prop nodes (Lratio a b r) = hlevel le_prop
IsStored-prop nodes (Weights a b c r s) = hlevel le_prop
IsStored-prop nodes _ = hlevel

NameKind-set : IsSet NameKind
NameKind-set = hlevel ⊎_set

kinds_set : IsSet (List NameKind)
kinds_set = List-set NameKind-set

Name-set : IsSet Name
Name-set = hlevel (List-set, ℕ_set, NameKind-set)

names_set : IsSet (List Name)
names_set = List-set Name-set

pub IsCommand-prop : (nodes : Store) (s : Scope) (own : List Name) (command : Command) → IsProp (IsCommand nodes s own command)
IsCommand-prop nodes s own command = hlevel (kinds_set, arguments_prop s (command_form nodes command).arguments, IsStored-prop nodes command)

AreCommands-prop : (nodes : Store) (s : Scope) (names : List Name) (commands : List Command) → IsProp (AreCommands nodes s names commands)
AreCommands-prop nodes s names [] = hlevel names_set
AreCommands-prop nodes s names (command ∷ commands) =
    let own = own_names (command_form nodes command) names in
    let later = later_names (command_form nodes command) names in
    hlevel (IsCommand-prop nodes s own command, AreCommands-prop nodes (scope_of s own) later commands)

AllDiffer-prop : (names : List Name) → IsProp (AllDiffer names)
AllDiffer-prop [] = hlevel
AllDiffer-prop (name ∷ names) = hlevel (AllDiffer-prop names)

AreSidesStored-prop : (nodes : Store) (s : Statement) → IsProp (AreSidesStored nodes s)
AreSidesStored-prop nodes (statement.Equal e f) = hlevel le_prop
AreSidesStored-prop nodes _ = hlevel

pub IsWellFormed-prop : (p : Source) → IsProp (IsWellFormed p)
IsWellFormed-prop p = hlevel (le_prop, IsNameText-prop, AllDiffer-prop p.names, AreCommands-prop p.nodes empty_scope p.names p.commands, IsArgument-prop, AreSidesStored-prop p.nodes p.statement)

-- every program is well-formed
pub program_well_formed : (p : Program) → IsWellFormed (source_of p)
program_well_formed p = ∥∥₁_elim p.spelt (IsWellFormed-prop (source_of p)) (λ spelt. spelt.well_formed)
