-- What is due for the conditions and goals of a problem.
use Rattle.std.specs.Prelude.{◌≡◌, ℕ, suc, ◌<◌, Some, List, All, drop, length, slice_get}
use Rattle.geo_conditions.specs.declared.items.Item.{Item}
use Rattle.geo_conditions.specs.declared.problem.Problem.{Problem}
use Rattle.geo_logs.specs.Logs.{Item as LogItem}
use Rattle.geo_points.specs.declared.ids.TermId.{TermId}
use Rattle.geo_poly.specs.declared.variables.Var.{Var}
use Rattle.geo_poly.specs.Polynomials.{Summands}
use Rattle.geo_terms.specs.Constructions.{Construction}
use Rattle.geo_terms.specs.Stores.{Store, tree_of}
use Rattle.proof_log.specs.declared.log.Line.{Line}
use Rattle.proof_log.specs.declared.log.Line.TheVariants.{Condition, Goal}
use Rattle.geo_chain.specs.declared.frame.Frame.{Frame}
use Rattle.geo_chain.specs.Parts.{IsInside, Part, conditions_part, goals_part, items_of}

-- the item's term stands in the store, and names points and parameters of the construction
pub record IsItemReady (c : Construction) (nodes : Store) (item : Item) : Type 0 where
  pub stored : item.term.0 < length nodes
  pub inside : IsInside c (tree_of nodes item.term)

-- so it is of all items of a problem
pub record HasReadyItems (problem : Problem) : Type 0 where
  pub conditions : All (IsItemReady problem.steps problem.steps.nodes) problem.conditions
  pub goals : All (IsItemReady problem.steps problem.steps.nodes) problem.goals

-- the chain of the condition at place i
pub record IsConditionTask (items : List Item) (i : ℕ) (header : Line) (term : TermId) : Type 0 where
  pub item : Item
  pub at : slice_get items i ≡ Some item
  pub header_is : header ≡ Condition (suc i) item.text
  pub term_is : term ≡ item.term

-- the chain of the goal at place i
pub record IsGoalTask (items : List Item) (i : ℕ) (header : Line) (term : TermId) : Type 0 where
  pub item : Item
  pub at : slice_get items i ≡ Some item
  pub header_is : header ≡ Goal (suc i) item.text
  pub term_is : term ≡ item.term

-- the listed conditions from place i on, with these goals behind them, and what follows
abbrev pub conditions_before : Frame → Construction → Store → List Item → List LogItem → ℕ → List Var → List Summands → ℕ → Part
conditions_before frame c nodes conditions goals i known listed left =
    conditions_part frame c goals known listed (suc i) left (items_of nodes (drop i conditions))

-- those of a problem, with its own goals
abbrev pub conditions_from : Frame → Problem → ℕ → List Var → List Summands → ℕ → Part
conditions_from frame problem i known listed left =
    let nodes = problem.steps.nodes in
    conditions_before frame problem.steps nodes problem.conditions (items_of nodes problem.goals) i known listed left

-- the listed goals from place i on, and what follows
abbrev pub goals_from : Frame → Construction → Store → List Item → ℕ → List Var → List Summands → ℕ → Part
goals_from frame c nodes goals i known listed left = goals_part frame c known listed (suc i) left (items_of nodes (drop i goals))
