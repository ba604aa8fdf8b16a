use Rattle.geo_place.specs.Inner.{item_reckoned}
use Rattle.geo_place.proofs.ItemTests.{null_or_met}
use Rattle.geo_place.proofs.conditions.is_null.Goals as goal

pub returns-in-Ok-clause-null : goal.returns-in-Ok-clause-null
returns-in-Ok-clause-null c =
    null_or_met c.in-Ok.value (item_reckoned c.args.sketch.now c.args.terms.now c.args.goal.now) c.is_zero.result c.in-Ok.ensures c.is_zero.ensures
