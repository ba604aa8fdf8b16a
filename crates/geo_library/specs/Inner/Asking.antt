-- What is asked, as the code takes it.
use Rattle.std.specs.Prelude.{◌≡◌, ℕ, suc, ◌<◌, ◌⊎◌, Contains, Option, Some, None, List, [], ◌∷◌, ◌++◌, length, map}
use Rattle.std.specs.List.{AllByRecursion}
use Rattle.geo_points.specs.declared.ids.TermId.{TermId}
use Rattle.geo_terms.specs.Constructions.{Construction}
use Rattle.geo_terms.specs.Stores.{Store, tree_of}
use Rattle.geo_terms.specs.Trees.{Tree}
use Rattle.geo_program.specs.declared.commands.Command.{Command}
use Rattle.geo_program.specs.declared.names.NameKind.TheVariants as kind
use Rattle.geo_lowering.specs.Counting.{counted, named}
use Rattle.geo_lowering.specs.Inner.Renaming.{AreRenamed}
use Rattle.geo_lowering.specs.Lowering.{Layout, renamed}
use Rattle.geo_conditions.specs.Inner.ItemTerms.{Keeps, terms_layout}
use Rattle.geo_library.specs.CitedGoals.{command_goals}
use Rattle.geo_library.specs.declared.asking.AskedGoal.{AskedGoal}
use Rattle.geo_library.specs.declared.places.Places.{Places}

-- PLACES
-- where points and parameters stand
abbrev pub layout_at : Places → Layout
layout_at places = terms_layout places.points.now places.params.now

-- the terms of a store are renamed by these places, and stand in the store of the steps
pub record ArePlaced (terms nodes : Store) (places : Places) : Type 0 where
  pub count : length places.terms.now ≡ length terms
  pub renamed : AreRenamed (layout_at places) terms nodes places.terms.now

-- GOALS
-- a goal of the citing program, and the line of the cited one that asks it
pub record GoalForm : Type 0 where
  pub line : ℕ
  pub term : Tree

-- the images of terms, asked at a line
abbrev pub goal_forms : Layout → ℕ → List Tree → List GoalForm
goal_forms l line es = map (λ e. record { line = line; term = renamed l e }) es

-- the images of the goals of commands, whose points begin at x and whose lines at `line`
abbrev pub goals_from : Store → Layout → ℕ → ℕ → List Command → List GoalForm
goals_from nodes l x line [] = []
goals_from nodes l x line (c ∷ cs) =
    goal_forms l line (command_goals nodes (record { 0 = x }) c) ++ goals_from nodes l (counted kind.Point (named c) x) (suc line) cs

-- an asked goal, its term unfolded
abbrev pub asked_form : Store → AskedGoal → GoalForm
asked_form nodes i = record { line = i.line; term = tree_of nodes i.term }

-- the asked goals stand in the store and have these forms
pub record AreAsked (nodes : Store) (asked : List AskedGoal) (forms : List GoalForm) : Type 0 where
  pub stored : AllByRecursion (λ i. i.term.0 < length nodes) asked
  pub are : map (asked_form nodes) asked ≡ forms

-- goals of these forms are asked besides
pub record Asks (old new : Construction) (before after : List AskedGoal) (forms : List GoalForm) : Type 0 where
  pub keeps : Keeps old new
  pub more : (done : List GoalForm) → AreAsked old.nodes before done → AreAsked new.nodes after (done ++ forms)
