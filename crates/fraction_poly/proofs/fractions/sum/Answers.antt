use Rattle.std.proofs.Common.{◌≡◌, ap, ◌∙◌}
use Rattle.std.proofs.lemmas.Result.{IfOk-at_ok, IfOk-weaker}
use Rattle.geo_poly.specs.Polynomials.{sum_of}
use Rattle.fraction_poly.specs.MultipliedOut.{whole_fraction}
use Rattle.fraction_poly.proofs.OneDenominators.{sum_over_one}
use Rattle.fraction_poly.proofs.fractions.sum.Goals as goal

pub returns-then-is_unit-2-clause-sum : goal.returns-then-is_unit-2-clause-sum
returns-then-is_unit-2-clause-sum g c =
    let a = c.args.left.now in
    let b = c.args.right.now in
    IfOk-weaker c.whole.result _ _
    (λ f is. is
    ∙ ap whole_fraction (IfOk-at_ok (λ p. p ≡ sum_of a.0 b.0) c.in_ok-numerator.ensures c.add.ensures.sum)
    ∙ sum_over_one a b (c.is_unit.ensures c.if-is_unit.true) (c.is_unit-then-is_unit.ensures c.if-is_unit-2.true)
    c.is_valid.ensures.valid c.is_valid-2.ensures.valid)
    c.whole.ensures
