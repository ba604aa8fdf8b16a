use Rattle.std.proofs.Common.{map, take}
use Rattle.geo_conditions.specs.Inner.ItemForms.{AreItems, condition_item_form, places_layout}
use Rattle.geo_conditions.specs.Inner.ItemTerms.{Keeps}
use Rattle.geo_conditions.proofs.condition_items.condition_items.Given as goal

-- the first ones have their items, and all that was there stays
abbrev pub invariant-loop-condition : goal.invariant-loop-condition
invariant-loop-condition l = record {
  keeps : Keeps l.initial.steps l.steps;
  items : AreItems l.steps.nodes l.items.items (map (condition_item_form l.printer.names l.printer.terms.now (places_layout l.places)) (take l.condition-index l.listed));
}
