-- The lines of commands, one after another.
use Rattle.std.proofs.Common.{◌≡◌, ℕ, ◌+◌, ◌<◌, ◌≤◌, List, [], ◌∷◌, ◌++◌, length, drop, get_or, refl, sym, ap, subst, ◌∙◌, append_assoc}
use Rattle.std.specs.List.{AllByRecursion}
use Rattle.std.proofs.lemmas.List.{append-nil, drop_all, drop_more}
use Rattle.std.proofs.lemmas.List.Elements.{recursion_from_All}
use Rattle.geo_program.specs.declared.commands.Command.{Command}
use Rattle.geo_program.specs.declared.names.Name.{Name}
use Rattle.geo_program.specs.CanonicalText.{command_lexemes, commands_lexemes, line_text, no_sketches}
use Rattle.geo_program.specs.Forms.{CommandForm, command_form}
use Rattle.geo_program.specs.Inner.Printing.{whole_scope, lines_text}
use Rattle.geo_program.specs.WellFormed.{AreCommands, IsArgument, IsCommand, Scope, empty_scope, kinds_made, later_names, own_names, scope_of}
use Rattle.geo_program.proofs.OwnNames.{own_and_later, own_within}
use Rattle.geo_program.proofs.ScopeLemmas.{IsWithinScope, IsWithinScope-append, arguments_wider, scope_of-append}
use Rattle.geo_terms.specs.Stores.{Store}

-- the commands that are left declare the names that are left, behind others
pub record AreLeft (all : List Name) (nodes : Store) (names : List Name) (commands : List Command) : Type 0 where
  pub before : List Name
  pub whole : before ++ names ≡ all
  pub made : AreCommands nodes (scope_of empty_scope before) names commands

pub AreLeft-first : (nodes : Store) (names : List Name) (commands : List Command) → AreCommands nodes empty_scope names commands → AreLeft names nodes names commands
AreLeft-first nodes names commands h = record { before = []; whole = refl; made = h }

-- the lines of commands
abbrev pub lines_left : List Name → Store → List Name → List Command → List ℕ
lines_left all nodes names commands = lines_text (commands_lexemes all nodes names commands (no_sketches commands))

module _ (all : List Name) (nodes : Store) (names : List Name) (commands : List Command) (k : ℕ) (d : Command) (left : AreLeft all nodes names (drop k commands)) (within : k < length commands) where
  abbrev command : Command
  command = get_or commands k d

  abbrev form : CommandForm
  form = command_form nodes command

  both : AreCommands nodes (scope_of empty_scope left.before) names (command ∷ drop (k + 1) commands)
  both = subst (λ (cs : List Command). AreCommands nodes (scope_of empty_scope left.before) names cs) (drop_more commands k d within) left.made

  -- the next command
  pub next_command : IsCommand nodes (scope_of empty_scope left.before) (own_names form names) command
  next_command = both.0

  -- its own name is there
  pub name_within : length (kinds_made form) ≤ length names
  name_within = own_within form names next_command.named

  -- its arguments are over all names
  pub arguments_declared : AllByRecursion (IsArgument (whole_scope all)) form.arguments
  arguments_declared =
      let wider : IsWithinScope (scope_of empty_scope left.before) (whole_scope all) =
      subst (λ (ns : List Name). IsWithinScope (scope_of empty_scope left.before) (whole_scope ns)) left.whole (IsWithinScope-append left.before names) in
      recursion_from_All (IsArgument (whole_scope all)) form.arguments (arguments_wider (scope_of empty_scope left.before) (whole_scope all) form.arguments wider next_command.arguments)

  -- those after it
  pub next_left : AreLeft all nodes (later_names form names) (drop (k + 1) commands)
  next_left = record {
    before = left.before ++ own_names form names;
    whole = append_assoc left.before (own_names form names) (later_names form names) ∙ ap (λ ns. left.before ++ ns) (own_and_later form names) ∙ left.whole;
    made = subst (λ (s : Scope). AreCommands nodes s (later_names form names) (drop (k + 1) commands)) (sym (scope_of-append empty_scope left.before (own_names form names))) both.1;
  }

  -- the line of the next command
  abbrev line : List ℕ
  line = line_text (command_lexemes all nodes (own_names form names) command)

  lines_next : lines_left all nodes names (drop k commands) ≡ (line ++ 10 ∷ []) ++ lines_left all nodes (later_names form names) (drop (k + 1) commands)
  lines_next =
      ap (lines_left all nodes names) (drop_more commands k d within)
      ∙ ap (λ l. (line_text l ++ 10 ∷ []) ++ lines_left all nodes (later_names form names) (drop (k + 1) commands)) (append-nil (command_lexemes all nodes (own_names form names) command))

  -- what is written, and then what is left, is the whole
  pub written_next : (whole before with_line after : List ℕ) (later : List Name) → later ≡ later_names form names
      → before ++ lines_left all nodes names (drop k commands) ≡ whole → with_line ≡ before ++ line → after ≡ with_line ++ 10 ∷ []
      → after ++ lines_left all nodes later (drop (k + 1) commands) ≡ whole
  written_next whole before with_line after later later_is is line_is feed =
      let rest = lines_left all nodes (later_names form names) (drop (k + 1) commands) in
      ap (λ ns. after ++ lines_left all nodes ns (drop (k + 1) commands)) later_is
      ∙ ap (λ t. t ++ rest) (feed ∙ ap (λ t. t ++ 10 ∷ []) line_is ∙ append_assoc before line (10 ∷ []))
      ∙ append_assoc before (line ++ 10 ∷ []) rest
      ∙ ap (λ t. before ++ t) (sym lines_next)
      ∙ is

-- at the end nothing is left
pub written_all : (all : List Name) (nodes : Store) (names : List Name) (commands : List Command) (k : ℕ) (whole written : List ℕ)
    → length commands ≤ k → written ++ lines_left all nodes names (drop k commands) ≡ whole → written ≡ whole
written_all all nodes names commands k whole written done is =
    sym (append-nil written) ∙ ap (λ t. written ++ t) (sym (ap (lines_left all nodes names) (drop_all k commands done))) ∙ is
