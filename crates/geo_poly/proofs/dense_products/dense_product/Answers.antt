use Rattle.std.proofs.Common.{ℤ, List, length, map, ap, ◌∙◌}
use Rattle.std.proofs.lemmas.Result.{IfOk-weaker}
use Rattle.geo_poly.specs.Chained.{indexed_pair}
use Rattle.geo_poly.specs.Inner.WordSums.{nonzero_below}
use Rattle.geo_poly.proofs.WordProducts.{products_fit, products_within, sums_indices, sums_terms}
use Rattle.geo_poly.proofs.dense_products.dense_product.Goals as goal

pub sums_of_products-requires-clause-words : goal.sums_of_products-requires-clause-words
sums_of_products-requires-clause-words c =
    products_within c.args.vars.now c.requires.rising c.args.words.now c.args.left.now c.args.right.now c.requires.left c.requires.right c.requires.reach
    c.words.result c.words.ensures.count

pub sums_of_products-requires-clause-fits : goal.sums_of_products-requires-clause-fits
sums_of_products-requires-clause-fits c =
    products_fit c.args.vars.now c.requires.rising c.args.words.now c.args.left.now c.args.right.now c.requires.left c.requires.right c.requires.reach
    c.requires.fits

pub returns-clause-indices : goal.returns-clause-indices
returns-clause-indices c =
    let same = ap (λ (xs : List ℤ). map indexed_pair (nonzero_below xs (length xs))) c.deref.ensures.value in
    IfOk-weaker c.nonzero_terms.result _ _
    (λ list h. sums_indices c.args.vars.now c.requires.rising c.args.words.now c.args.left.now c.args.right.now c.requires.left c.requires.right
    c.requires.reach c.in_ok-sums.sums.items list.items c.words.result c.words.ensures.count c.in_ok-sums.ensures.whole c.in_ok-sums.ensures.sums (h ∙ same))
    c.nonzero_terms.ensures

pub returns-clause-product : goal.returns-clause-product
returns-clause-product c =
    let same = ap (λ (xs : List ℤ). map indexed_pair (nonzero_below xs (length xs))) c.deref.ensures.value in
    IfOk-weaker c.nonzero_terms.result _ _
    (λ list h. sums_terms c.args.vars.now c.requires.rising c.args.words.now c.args.left.now c.args.right.now c.requires.left c.requires.right
    c.requires.reach c.in_ok-sums.sums.items list.items c.words.result c.words.ensures.count c.in_ok-sums.ensures.whole c.in_ok-sums.ensures.sums (h ∙ same))
    c.nonzero_terms.ensures
