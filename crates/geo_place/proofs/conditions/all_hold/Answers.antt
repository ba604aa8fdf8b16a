use Rattle.std.proofs.Common.{subst}
use Rattle.std.specs.Bool.{MatchBool}
use Rattle.geo_place.specs.Inner.{IsItemMet, IsItemNull}
use Rattle.geo_place.proofs.ItemTests.{goals_refused, stops_goals}
use Rattle.geo_place.proofs.conditions.all_hold.Goals as goal

pub returns-in_err-is_null : goal.returns-in_err-is_null
returns-in_err-is_null c =
    goals_refused c.args.sketch.now c.args.terms.now c.args.goals.now c.loop-item.item-index c.item-item.result c.loop-item-test.true c.item-item.is
    c.from_residual.result c.in_err-is_null.field-0.0 c.from_residual.ensures.1 c.in_err-is_null.ensures.refused c.loop-item.invariant

pub returns-then-not-branch : goal.returns-then-not-branch
returns-then-not-branch c =
    let sketch = c.args.sketch.now in
    let terms = c.args.terms.now in
    let item = c.item-item.result in
    stops_goals sketch terms c.args.goals.now c.loop-item.item-index item c.loop-item-test.true c.item-item.is (IsItemMet sketch terms) c.loop-item.invariant
    (subst (λ b. MatchBool b (IsItemNull sketch terms item) (IsItemMet sketch terms item)) c.if-not-branch.true c.in_ok-is_null.ensures.null)
