use Rattle.std.proofs.Common.{sym, ap, ap₂, ◌∙◌, inl, inr}
use Rattle.geo_terms.specs.declared.nodes.Node.{Node}
use Rattle.geo_terms.specs.Stores.{node_tree, tree_at}
use Rattle.fraction_poly.specs.Measures.{capped, numbers_of, sum_numbers, product_numbers, turned_numbers}
use Rattle.fraction_poly.proofs.CappedNumbers.{capped-sum, capped-product, numbers_at}
use Rattle.fraction_poly.proofs.numbers.node_numbers.Goals as goal

pub returns-in-Add : goal.returns-in-Add
returns-in-Add c = λ trees h.
    let e = numbers_at trees c.args.parts.now c.in-Add.e c.part-in-Add.result h c.part-in-Add.ensures in
    let f = numbers_at trees c.args.parts.now c.in-Add.f c.part-in-Add-2.result h c.part-in-Add-2.ensures in
    let sum = c.sum.ensures ∙ ap₂ (λ a b. capped (sum_numbers a b)) e f ∙ capped-sum (numbers_of (tree_at trees c.in-Add.e)) (numbers_of (tree_at trees c.in-Add.f)) in
    elim c.in-Add.is [
      | inl is ↦ sum ∙ sym (ap (λ (n : Node). capped (numbers_of (node_tree trees n))) is)
      | inr is ↦ sum ∙ sym (ap (λ (n : Node). capped (numbers_of (node_tree trees n))) is)
    ]

pub returns-in-Mul : goal.returns-in-Mul
returns-in-Mul c = λ trees h.
    let e = numbers_at trees c.args.parts.now c.in-Mul.e c.part-in-Mul.result h c.part-in-Mul.ensures in
    let f = numbers_at trees c.args.parts.now c.in-Mul.f c.part-in-Mul-2.result h c.part-in-Mul-2.ensures in
    c.product.ensures ∙ ap₂ (λ a b. capped (product_numbers a b)) e f
    ∙ capped-product (numbers_of (tree_at trees c.in-Mul.e)) (numbers_of (tree_at trees c.in-Mul.f))
    ∙ sym (ap (λ (n : Node). capped (numbers_of (node_tree trees n))) c.in-Mul.is)

pub returns-in-Div : goal.returns-in-Div
returns-in-Div c = λ trees h.
    let e = numbers_at trees c.args.parts.now c.in-Div.e c.part-in-Div.result h c.part-in-Div.ensures in
    let f = numbers_at trees c.args.parts.now c.in-Div.f c.part-in-Div-2.result h c.part-in-Div-2.ensures in
    c.product-in-Div.ensures ∙ ap₂ (λ a b. capped (product_numbers a b)) e (c.turned.ensures ∙ ap turned_numbers f)
    ∙ capped-product (numbers_of (tree_at trees c.in-Div.e)) (turned_numbers (numbers_of (tree_at trees c.in-Div.f)))
    ∙ sym (ap (λ (n : Node). capped (numbers_of (node_tree trees n))) c.in-Div.is)
