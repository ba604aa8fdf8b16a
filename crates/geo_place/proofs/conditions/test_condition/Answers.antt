use Rattle.std.proofs.Common.{◌+◌}
use Rattle.geo_place.specs.Inner.{item_reckoned}
use Rattle.geo_place.proofs.ItemTests.{null_item, unmet_item}
use Rattle.geo_place.proofs.conditions.test_condition.Goals as goal

pub returns-then-is_zero-clause-fails : goal.returns-then-is_zero-clause-fails
returns-then-is_zero-clause-fails c =
    unmet_item c.args.sketch.now c.args.terms.now c.args.item.now (c.args.number + 1) c.unmet.result c.unmet.ensures.told
    (null_item c.in-Ok.value (item_reckoned c.args.sketch.now c.args.terms.now c.args.item.now) c.in-Ok.ensures c.if-is_zero.ensures)
