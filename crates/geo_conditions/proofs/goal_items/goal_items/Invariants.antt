use Rattle.std.proofs.Common.{map, take}
use Rattle.geo_conditions.specs.Inner.ItemForms.{AreItems, goal_item_form, places_layout}
use Rattle.geo_conditions.specs.Inner.ItemTerms.{Keeps}
use Rattle.geo_conditions.proofs.goal_items.goal_items.Given as goal

-- the first ones have their items, and all that was there stays
abbrev pub invariant-loop-goal : goal.invariant-loop-goal
invariant-loop-goal l = record {
  keeps : Keeps l.initial.steps l.steps;
  items : AreItems l.steps.nodes l.items.items (map (goal_item_form l.printer.names l.printer.terms.now (places_layout l.places) l.line) (take l.goal-index l.listed));
}
