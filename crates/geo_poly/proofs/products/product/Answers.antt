use Rattle.std.proofs.Common.{◌∙◌}
use Rattle.std.proofs.lemmas.Result.{IfOk-weaker}
use Rattle.geo_poly.specs.Shared.{told}
use Rattle.geo_poly.proofs.LoneTerms.{CanMultiply-flip}
use Rattle.geo_poly.proofs.ProductOrder.{product_of_comm}
use Rattle.geo_poly.proofs.Unions.{AllVariables-longer, parts_known}
use Rattle.geo_poly.proofs.products.product.Goals as goal

pub packed_product-requires-clause-left_known : goal.packed_product-requires-clause-left_known
packed_product-requires-clause-left_known c =
    AllVariables-longer c.args.p.now.vars.now c.in_ok-vars.vars (told c.args.p.now) c.in_ok-vars.ensures.left (parts_known c.args.p.now c.requires.left)

pub packed_product-requires-clause-right_known : goal.packed_product-requires-clause-right_known
packed_product-requires-clause-right_known c =
    AllVariables-longer c.args.q.now.vars.now c.in_ok-vars.vars (told c.args.q.now) c.in_ok-vars.ensures.right (parts_known c.args.q.now c.requires.right)

pub stored_product-requires-clause-left_known : goal.stored_product-requires-clause-left_known
stored_product-requires-clause-left_known c =
    AllVariables-longer c.args.p.now.vars.now c.in_ok-vars.vars (told c.args.p.now) c.in_ok-vars.ensures.left (parts_known c.args.p.now c.requires.left)

pub stored_product-requires-clause-right_known : goal.stored_product-requires-clause-right_known
stored_product-requires-clause-right_known c =
    AllVariables-longer c.args.q.now.vars.now c.in_ok-vars.vars (told c.args.q.now) c.in_ok-vars.ensures.right (parts_known c.args.q.now c.requires.right)

pub product_over-requires-clause-known : goal.product_over-requires-clause-known
product_over-requires-clause-known c =
    AllVariables-longer c.args.q.now.vars.now c.args.p.now.vars.now (told c.args.q.now) (c.has_all.ensures c.if-has_all.true) (parts_known c.args.q.now c.requires.right)

pub product_over-requires-then-has_all-2-clause-known : goal.product_over-requires-then-has_all-2-clause-known
product_over-requires-then-has_all-2-clause-known c =
    AllVariables-longer c.args.p.now.vars.now c.args.q.now.vars.now (told c.args.p.now) (c.has_all-then-p-eq1.ensures c.if-has_all-2.true) (parts_known c.args.p.now c.requires.left)

pub product_over-requires-then-has_all-2-clause-fits : goal.product_over-requires-then-has_all-2-clause-fits
product_over-requires-then-has_all-2-clause-fits c = CanMultiply-flip (told c.args.p.now) (told c.args.q.now) c.requires.fits

pub returns-then-has_all-2 : goal.returns-then-has_all-2
returns-then-has_all-2 c =
    IfOk-weaker c.product_over-then-has_all-2.result _ _ (λ s h. h ∙ product_of_comm (told c.args.q.now) (told c.args.p.now)) c.product_over-then-has_all-2.ensures
