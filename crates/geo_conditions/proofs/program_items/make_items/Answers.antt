use Rattle.std.proofs.Common.{map}
use Rattle.geo_conditions.specs.Inner.ItemForms.{condition_item_form, places_layout}
use Rattle.geo_conditions.proofs.ItemsMade.{still_items, still_placed}
use Rattle.geo_conditions.proofs.TermsInterned.{keeps_both}
use Rattle.geo_conditions.proofs.program_items.make_items.Goals as goal

pub goal_items-requires-clause-placed : goal.goal_items-requires-clause-placed
goal_items-requires-clause-placed c =
    still_placed c.args.printer.now.terms.now c.args.places.now c.args.steps.now c.condition_items.new.steps c.in_ok-conditions.ensures.keeps c.requires.placed

pub returns-clause-keeps : goal.returns-clause-keeps
returns-clause-keeps c = keeps_both c.args.steps.now c.condition_items.new.steps c.goal_items.new.steps c.in_ok-conditions.ensures.keeps c.in_ok-goals.ensures.keeps

pub returns-clause-conditions : goal.returns-clause-conditions
returns-clause-conditions c =
    still_items c.condition_items.new.steps c.goal_items.new.steps c.in_ok-conditions.conditions
    (map (condition_item_form c.args.printer.now.names c.args.printer.now.terms.now (places_layout c.args.places.now)) c.args.rows.now)
    c.in_ok-goals.ensures.keeps c.in_ok-conditions.ensures.items
