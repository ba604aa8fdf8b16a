use Rattle.std.proofs.Common.{inl, inr, sym, ◌∙◌, arith}
use Rattle.fraction_poly.proofs.ZeroProducts.{no_products, product_of-zero}
use Rattle.fraction_poly.proofs.fractions.times.Goals as goal
use Rattle.fraction_poly.proofs.fractions.times.Goals.{then-is_zero-via-then-is_zero, then-is_zero-via-else-is_zero+then-is_zero-2}

pub returns-then-is_zero-clause-product : goal.returns-then-is_zero-clause-product
returns-then-is_zero-clause-product g c =
    c.zero.ensures ∙ sym (product_of-zero c.args.left.now c.args.right.now (elim c.then-is_zero.branch [
      | then-is_zero-via-then-is_zero w ↦ inl (c.is_zero.ensures.0 w.if-is_zero.true)
      | then-is_zero-via-else-is_zero+then-is_zero-2 w ↦ inr (w.is_zero-else-is_zero.ensures.0 w.if-is_zero-2.true)
    ]))

pub returns-then-is_zero-clause-ticks : goal.returns-then-is_zero-clause-ticks
returns-then-is_zero-clause-ticks g c =
    let none = no_products c.args.left.now c.args.right.now (elim c.then-is_zero.branch [
      | then-is_zero-via-then-is_zero w ↦ inl (c.is_zero.ensures.0 w.if-is_zero.true)
      | then-is_zero-via-else-is_zero+then-is_zero-2 w ↦ inr (w.is_zero-else-is_zero.ensures.0 w.if-is_zero-2.true)
    ]) in
    omega (arith, none)
