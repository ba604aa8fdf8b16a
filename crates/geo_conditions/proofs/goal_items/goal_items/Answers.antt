use Rattle.std.proofs.Common.{List, [], map, take, refl, sym, subst, subst₂}
use Rattle.std.proofs.lemmas.List.{map_more}
use Rattle.geo_conditions.specs.declared.items.Item.{Item}
use Rattle.geo_conditions.specs.Inner.ItemForms.{AreItems, goal_item_form, places_layout}
use Rattle.geo_conditions.specs.Lists.{ItemForm}
use Rattle.geo_conditions.proofs.ItemsMade.{more_items, still_placed}
use Rattle.geo_conditions.proofs.TermsInterned.{keeps_all, keeps_both}
use Rattle.geo_conditions.proofs.goal_items.goal_items.Goals as goal

pub loop-goal-init : goal.loop-goal-init
loop-goal-init c =
    record {
      keeps = keeps_all c.args.steps.now;
      items = subst (λ (items : List Item). AreItems c.args.steps.now.nodes items [])
          (sym c.new-items.ensures.items) (record { stored = tt; are = refl });
    }

pub goal_item-requires-clause-placed : goal.goal_item-requires-clause-placed
goal_item-requires-clause-placed c =
    still_placed c.args.printer.now.terms.now c.args.places.now c.args.steps.now c.loop-goal.steps c.loop-goal.invariant.keeps c.requires.placed

pub loop-goal-preserved : goal.loop-goal-preserved
loop-goal-preserved c =
    let l = c.loop-goal in
    let form = goal_item_form c.args.printer.now.names c.args.printer.now.terms.now (places_layout c.args.places.now) c.args.line in
    let next = c.goal_item.new.steps in
    let item = c.in_ok-goal_item.field-0 in
    let more = more_items l.steps next l.items.items (map form (take l.goal-index c.args.listed.now)) item _ l.invariant.items c.in_ok-goal_item.ensures.item in
    record {
      keeps = keeps_both c.args.steps.now l.steps next l.invariant.keeps c.in_ok-goal_item.ensures.keeps;
      items = subst₂ (λ (items : List Item) (forms : List ItemForm). AreItems next.nodes items forms) (sym c.in_ok-push.ensures.items)
          (sym (map_more form c.args.listed.now l.goal-index _ c.loop-goal-test.true)) more;
    }
