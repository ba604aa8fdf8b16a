use Rattle.std.proofs.Common.{◌∙◌}
use Rattle.std.proofs.lemmas.Result.{IfOk-weaker}
use Rattle.geo_poly.specs.Shared.{terms_of}
use Rattle.geo_poly.specs.Keys.{store_keys}
use Rattle.geo_poly.proofs.LoneTerms.{CanMultiply-flip, multiples_of_lone}
use Rattle.geo_poly.proofs.ProductOrder.{product_of_comm}
use Rattle.geo_poly.proofs.products.product_list.Goals as goal

pub returns-in-len1-default-clause-product : goal.returns-in-len1-default-clause-product
returns-in-len1-default-clause-product g c =
    let vars = c.args.vars.now in
    let s = c.args.store.now in
    IfOk-weaker c.multiples_list.result _ _
    (λ list h. h ∙ multiples_of_lone vars (store_keys s) c.args.left.now c.in-len1-default.len_at_least c.in-len1-default.len_below (terms_of vars s c.args.right.now) c.requires.fits)
    c.multiples_list.ensures.terms

pub returns-in_default-len1-clause-product : goal.returns-in_default-len1-clause-product
returns-in_default-len1-clause-product g c =
    let vars = c.args.vars.now in
    let s = c.args.store.now in
    let left = terms_of vars s c.args.left.now in
    let right = terms_of vars s c.args.right.now in
    IfOk-weaker c.multiples_list-in_default-len1.result _ _
    (λ list h. h ∙ multiples_of_lone vars (store_keys s) c.args.right.now c.in_default-len1.len_at_least c.in_default-len1.len_below left
    (CanMultiply-flip left right c.requires.fits) ∙ product_of_comm right left)
    c.multiples_list-in_default-len1.ensures.terms
