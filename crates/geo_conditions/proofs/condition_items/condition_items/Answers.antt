use Rattle.std.proofs.Common.{List, [], map, take, refl, sym, subst, subst₂}
use Rattle.std.proofs.lemmas.List.{map_more}
use Rattle.geo_conditions.specs.declared.items.Item.{Item}
use Rattle.geo_conditions.specs.Inner.ItemForms.{AreItems, condition_item_form, places_layout}
use Rattle.geo_conditions.specs.Lists.{ItemForm}
use Rattle.geo_conditions.proofs.ItemsMade.{more_items, still_placed}
use Rattle.geo_conditions.proofs.TermsInterned.{keeps_all, keeps_both}
use Rattle.geo_conditions.proofs.condition_items.condition_items.Goals as goal

pub loop-condition-init : goal.loop-condition-init
loop-condition-init c =
    record {
      keeps = keeps_all c.args.steps.now;
      items = subst (λ (items : List Item). AreItems c.args.steps.now.nodes items [])
          (sym c.new-items.ensures.items) (record { stored = tt; are = refl });
    }

pub condition_item-requires-clause-placed : goal.condition_item-requires-clause-placed
condition_item-requires-clause-placed c =
    still_placed c.args.printer.now.terms.now c.args.places.now c.args.steps.now c.loop-condition.steps c.loop-condition.invariant.keeps c.requires.placed

pub loop-condition-preserved : goal.loop-condition-preserved
loop-condition-preserved c =
    let l = c.loop-condition in
    let form = condition_item_form c.args.printer.now.names c.args.printer.now.terms.now (places_layout c.args.places.now) in
    let next = c.condition_item.new.steps in
    let item = c.in_ok-condition_item.field-0 in
    let more = more_items l.steps next l.items.items (map form (take l.condition-index c.args.listed.now)) item _ l.invariant.items c.in_ok-condition_item.ensures.item in
    record {
      keeps = keeps_both c.args.steps.now l.steps next l.invariant.keeps c.in_ok-condition_item.ensures.keeps;
      items = subst₂ (λ (items : List Item) (forms : List ItemForm). AreItems next.nodes items forms) (sym c.in_ok-push.ensures.items)
          (sym (map_more form c.args.listed.now l.condition-index _ c.loop-condition-test.true)) more;
    }
