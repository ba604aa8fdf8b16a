use Rattle.geo_place.specs.Inner.{FirstFails}
use Rattle.geo_place.proofs.ItemTests.{first_fails, passed_on}
use Rattle.geo_place.proofs.conditions.test_conditions.Goals as goal

pub returns-in_err-test_condition-clause-fails : goal.returns-in_err-test_condition-clause-fails
returns-in_err-test_condition-clause-fails c =
    passed_on c.from_residual.result c.in_err-test_condition.field-0.0 (FirstFails c.args.sketch.now c.args.terms.now c.args.items.now c.args.earlier) c.from_residual.ensures.1
    (first_fails c.args.sketch.now c.args.terms.now c.args.items.now c.loop-k.k c.index-items-k.result c.loop-k-test.true c.index-items-k.is
    c.args.earlier c.in_err-test_condition.field-0.0 c.loop-k.invariant c.in_err-test_condition.ensures.fails)
