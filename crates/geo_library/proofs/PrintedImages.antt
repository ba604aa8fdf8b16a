-- What is over a program's names is over other names of the same kinds.
use Rattle.std.proofs.Common.{◌≡◌, ◌<◌, true, List, [], ◌∷◌, sym, ◌∙◌, ap, subst, subst₂}
use Rattle.std.specs.List.{AllByRecursion}
use Rattle.std.proofs.lemmas.List.Elements.{recursion_from_All}
use Rattle.geo_program.specs.declared.commands.Command.{Command}
use Rattle.geo_program.specs.declared.names.Name.{Name}
use Rattle.geo_program.specs.Expressions.{IsExpression}
use Rattle.geo_program.specs.Forms.{AreSidesStored, IsStored, command_form, statement_form}
use Rattle.geo_program.specs.Inner.Printing.{whole_scope}
use Rattle.geo_program.specs.WellFormed.{AreCommands, IsArgument, IsWellFormed, Scope, Source, empty_scope, later_names, own_names, scope_of}
use Rattle.geo_terms.specs.Stores.{Store, tree_of}
use Rattle.geo_conditions.specs.declared.conditions.Condition.{Condition}
use Rattle.geo_conditions.specs.declared.conditions.Condition.TheVariants.{Different, NotCollinear, NotParallel, Crossing, Nonzero}
use Rattle.geo_conditions.specs.declared.conditions.ListedCondition.{ListedCondition}
use Rattle.geo_conditions.specs.Inner.ItemForms.{IsPrintableCondition}
use Rattle.geo_library.specs.Inner.Cases.{IsRenamedBy}
use Rattle.geo_library.specs.Renamings.{Renaming, given_names}
use Rattle.geo_library.proofs.Given.{scope_given}

-- the names that are given have the kinds of the cited ones
pub same_scope : (p q : Source) (given : List Name) (r : Renaming) → IsRenamedBy p q given r → whole_scope given ≡ whole_scope p.names
same_scope p q given r h = ap whole_scope h.names ∙ scope_given empty_scope p.names h.texts h.renames.counted

-- CONDITIONS
module _ (given names : List Name) (nodes : Store) (e : whole_scope given ≡ whole_scope names) where
  in_scope : (P : Scope → Type 0) → P (whole_scope names) → P (whole_scope given)
  in_scope P h = subst P (sym e) h

  printable : (c : Condition) → IsPrintableCondition names nodes c → IsPrintableCondition given nodes c
  printable (Different a b) h = in_scope (λ s. AllByRecursion (λ p. p.0 < s.points) (a ∷ b ∷ [])) h
  printable (NotCollinear a b c) h = in_scope (λ s. AllByRecursion (λ p. p.0 < s.points) (a ∷ b ∷ c ∷ [])) h
  printable (NotParallel a b c d) h = in_scope (λ s. AllByRecursion (λ p. p.0 < s.points) (a ∷ b ∷ c ∷ d ∷ [])) h
  printable (Crossing a b) h = in_scope (λ s. (a.0 < s.lines) × (b.0 < s.lines)) h
  printable (Nonzero t) h = record {
    store = h.store;
    stored = h.stored;
    expression = in_scope (λ s. IsExpression s.points s.params true (tree_of nodes t)) h.expression;
    shallow = h.shallow;
  }

  pub all_printable : (rows : List ListedCondition) → AllByRecursion (λ i. IsPrintableCondition names nodes i.condition) rows
      → AllByRecursion (λ i. IsPrintableCondition given nodes i.condition) rows
  all_printable [] h = tt
  all_printable (i ∷ rows) h = (printable i.condition h.0, all_printable rows h.1)

-- THE STATEMENT
module _ (p : Source) (names : List Name) (terms : Store) (w : IsWellFormed p) (y : terms ≡ p.nodes) where
  pub statement_named : whole_scope names ≡ whole_scope p.names → AllByRecursion (IsArgument (whole_scope names)) (statement_form terms p.statement).arguments
  statement_named e =
      subst₂ (λ (s : Scope) (ts : Store). AllByRecursion (IsArgument s) (statement_form ts p.statement).arguments) (sym e) (sym y)
      (recursion_from_All (IsArgument (whole_scope p.names)) (statement_form p.nodes p.statement).arguments w.statement)

  pub sides_stored : AreSidesStored terms p.statement
  sides_stored = subst (λ (ts : Store). AreSidesStored ts p.statement) (sym y) w.sides

-- THE STORE
stored_from : (nodes : Store) (s : Scope) (names : List Name) (cs : List Command) → AreCommands nodes s names cs → AllByRecursion (IsStored nodes) cs
stored_from nodes s names [] h = tt
stored_from nodes s names (c ∷ cs) h = (
  h.0.stored,
  stored_from nodes (scope_of s (own_names (command_form nodes c) names)) (later_names (command_form nodes c) names) cs h.1,
)

-- the terms of a program's commands stand in its store
pub all_stored : (p : Source) → IsWellFormed p → AllByRecursion (IsStored p.nodes) p.commands
all_stored p w = stored_from p.nodes empty_scope p.names p.commands w.commands
