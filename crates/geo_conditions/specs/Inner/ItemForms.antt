-- The items of conditions and goals, by the parts from which they are made.
use Rattle.std.specs.Prelude.{◌≡◌, ℕ, ◌<◌, List, [], ◌∷◌, length, map, slice_index_or}
use Rattle.std.specs.List.{AllByRecursion}
use Rattle.geo_points.specs.declared.ids.PointId.{PointId}
use Rattle.geo_points.specs.declared.ids.ParamId.{ParamId}
use Rattle.geo_terms.specs.Constructions.{Construction}
use Rattle.geo_terms.specs.Stores.{Store}
use Rattle.geo_program.specs.declared.names.Name.{Name}
use Rattle.geo_program.specs.declared.statements.Statement.{Statement}
use Rattle.geo_program.specs.Forms.{AreSidesStored, statement_form}
use Rattle.geo_program.specs.FormTexts.{form_text}
use Rattle.geo_program.specs.Inner.Printing.{IsPrintableTerm, whole_scope}
use Rattle.geo_program.specs.WellFormed.{IsArgument}
use Rattle.geo_program.specs.declared.commands.Command.{Command}
use Rattle.geo_lowering.specs.Counting.{param_places}
use Rattle.geo_lowering.specs.Lowering.{Layout, line_places, pair_numbers, point_place, point_places}
use Rattle.geo_lowering.specs.Inner.Renaming.{AreRenamed}
use Rattle.geo_lowering.specs.declared.version.Version.{Version}
use Rattle.geo_conditions.specs.declared.conditions.Condition.{Condition}
use Rattle.geo_conditions.specs.declared.conditions.Condition.TheVariants.{Different, NotCollinear, NotParallel, Crossing, Nonzero}
use Rattle.geo_conditions.specs.declared.conditions.ListedCondition.{ListedCondition}
use Rattle.geo_conditions.specs.declared.items.Item.{Item}
use Rattle.geo_conditions.specs.declared.item_terms.Places.{Places}
use Rattle.geo_conditions.specs.Inner.ConditionLists.{condition_of}
use Rattle.geo_conditions.specs.Inner.ItemTerms.{Keeps}
use Rattle.geo_conditions.specs.Lists.{ItemForm, condition_form, item_form}
use Rattle.geo_conditions.specs.Terms.{condition_term, goal_term}

-- PLACES
-- where all that has a name stands, by the lists
abbrev pub places_layout : Places → Layout
places_layout places = record {
  point = λ a. slice_index_or (map (λ p. p.0) places.points.now) a 0;
  line = λ a. slice_index_or (map pair_numbers places.lines.now) a (record { left = 0; right = 0 });
  param = λ t. slice_index_or (map (λ p. p.0) places.params.now) t 0;
}

-- the terms of a program are renamed by these places, and stand in the store of the steps
pub record ArePlaced (terms nodes : Store) (places : Places) : Type 0 where
  pub count : length places.terms.now ≡ length terms
  pub renamed : AreRenamed (places_layout places) terms nodes places.terms.now

-- WHAT CAN BE PRINTED
-- the condition is over the names
abbrev pub IsPrintableCondition : List Name → Store → Condition → Type 0
IsPrintableCondition names nodes (Different a b) = AllByRecursion (λ p. p.0 < (whole_scope names).points) (a ∷ b ∷ [])
IsPrintableCondition names nodes (NotCollinear a b c) = AllByRecursion (λ p. p.0 < (whole_scope names).points) (a ∷ b ∷ c ∷ [])
IsPrintableCondition names nodes (NotParallel a b c d) = AllByRecursion (λ p. p.0 < (whole_scope names).points) (a ∷ b ∷ c ∷ d ∷ [])
IsPrintableCondition names nodes (Crossing a b) = (a.0 < (whole_scope names).lines) × (b.0 < (whole_scope names).lines)
IsPrintableCondition names nodes (Nonzero e) = IsPrintableTerm names nodes e

-- the goal is over the names, and its sides stand in the store
pub record IsPrintableGoal (names : List Name) (nodes : Store) (goal : Statement) : Type 0 where
  pub arguments : AllByRecursion (IsArgument (whole_scope names)) (statement_form nodes goal).arguments
  pub sides : AreSidesStored nodes goal

-- ITEMS
-- a listed condition
abbrev pub condition_item_form : List Name → Store → Layout → ListedCondition → ItemForm
condition_item_form names nodes l i = record {
  text = form_text names (condition_form (condition_of nodes i.condition));
  term = condition_term l (condition_of nodes i.condition);
  line = i.line;
}

-- a goal
abbrev pub goal_item_form : List Name → Store → Layout → ℕ → Statement → ItemForm
goal_item_form names nodes l line g = record { text = form_text names (statement_form nodes g); term = goal_term l nodes g; line = line }

-- the steps have an item of this form
pub record HasItem (old new : Construction) (item : Item) (form : ItemForm) : Type 0 where
  pub keeps : Keeps old new
  pub stored : item.term.0 < length new.nodes
  pub is : item_form new.nodes item ≡ form

-- the items stand in the store and have these forms
pub record AreItems (nodes : Store) (items : List Item) (forms : List ItemForm) : Type 0 where
  pub stored : AllByRecursion (λ i. i.term.0 < length nodes) items
  pub are : map (item_form nodes) items ≡ forms

-- the lists say where the points, lines and parameters of the commands stand
pub record HasPlaces (version : Version) (commands : List Command) (p : List PointId) (l : List (PointId × PointId)) (t : List ParamId) : Type 0 where
  pub points : map (λ a. a.0) p ≡ point_places version 0 commands
  pub lines : map pair_numbers l ≡ line_places version (point_place version commands) 0 commands
  pub params : map (λ k. k.0) t ≡ param_places 0 commands
