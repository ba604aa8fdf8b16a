use Rattle.std.proofs.Common.{Err, ap, ◌∙◌, arith}
use Rattle.fraction_poly.specs.Measures.{capped, numbers_of}
use Rattle.geo_terms.specs.Stores.{Store, tree_of}
use Rattle.elim_apply.specs.declared.errors.ApplyError.TheVariants.{Spent, TooLarge}
use Rattle.elim_apply.proofs.HandedOn.{handed_on}
use Rattle.elim_apply.proofs.starting.start.Goals as goal

pub pay_start-requires : goal.pay_start-requires
pay_start-requires g c = c.in_ok-numbers.ensures ∙ ap (λ (nodes : Store). capped (numbers_of (tree_of nodes c.args.id))) c.look.ensures

pub returns-in_err-pay_start-clause-spent : goal.returns-in_err-pay_start-clause-spent
returns-in_err-pay_start-clause-spent g c = λ h.
    c.in_err-pay_start.ensures.spent
    (ap Err (handed_on c.from_residual-in_err-pay_start.result c.in_err-pay_start.field-0.0 Spent
    c.from_residual-in_err-pay_start.ensures.1 h))

pub returns-in_err-pay_start-clause-too_large : goal.returns-in_err-pay_start-clause-too_large
returns-in_err-pay_start-clause-too_large g c = λ which h.
    c.in_err-pay_start.ensures.too_large which
    (ap Err (handed_on c.from_residual-in_err-pay_start.result c.in_err-pay_start.field-0.0 (TooLarge which)
    c.from_residual-in_err-pay_start.ensures.1 h))

pub returns-in_err-paid_numerator-clause-ticks : goal.returns-in_err-paid_numerator-clause-ticks
returns-in_err-paid_numerator-clause-ticks g c = omega (arith, c.in_err-paid_numerator.ensures.ticks)

pub returns-clause-ticks : goal.returns-clause-ticks
returns-clause-ticks g c = omega (arith, c.in_ok-paid_numerator.ensures.ticks)

pub returns-clause-counted : goal.returns-clause-counted
returns-clause-counted g c =
    omega (arith, c.in_ok-paid_numerator.ensures.ticks, c.in_ok-pay_start.ensures.paid, c.in_ok-pay_start.ensures.started.paid)
