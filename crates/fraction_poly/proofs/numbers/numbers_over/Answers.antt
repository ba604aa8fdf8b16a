use Rattle.std.proofs.Common.{ap, ◌∙◌}
use Rattle.fraction_poly.specs.Measures.{capped, product_numbers}
use Rattle.fraction_poly.proofs.SmallTerms.{numbers_divided, numbers_multiplied, numbers_summed}
use Rattle.fraction_poly.proofs.numbers.numbers_over.Goals as goal

pub returns-in-Mul : goal.returns-in-Mul
returns-in-Mul c trees h =
    numbers_multiplied trees c.args.left c.args.right c.args.node c.in-Mul.field-0 c.in-Mul.field-1 c.product.result c.in-Mul.is h c.product.ensures

pub returns-in-Div : goal.returns-in-Div
returns-in-Div c trees h =
    numbers_divided trees c.args.left c.args.right c.args.node c.in-Div.field-0 c.in-Div.field-1 c.product-in-Div.result c.in-Div.is h
    (c.product-in-Div.ensures ∙ ap (λ n. capped (product_numbers c.args.left n)) c.turned.ensures)

pub returns-in_default : goal.returns-in_default
returns-in_default c trees h =
    numbers_summed trees c.args.left c.args.right c.args.node c.sum.result c.in_default.not-Mul c.in_default.not-Div h c.sum.ensures
