use Rattle.std.proofs.Common.{◌∙◌, length, sym, subst, FitsSigned, rules, arith}
use Rattle.std.specs.Int.{w128}
use Rattle.geo_poly.proofs.ProductLaws.{coded_product_is, product_is_kept}
use Rattle.geo_poly.proofs.Told.{item}
use Rattle.geo_poly.proofs.WordMultiples.{product_fits, sum_fits, sums_more, word_within}
use Rattle.geo_poly.proofs.dense_products.add_multiples.Goals as goal

pub overflow_add-t : goal.overflow_add-t
overflow_add-t c =
    let sums = c.args.sums.now in
    let within = word_within c.args.t c.args.list.now c.loop-id.id-index c.loop-id-test.true (length sums.items) c.requires.words in
    omega (arith, within, sums.ok.0, sums.ok.1, sums.small)

pub overflow_mul-t : goal.overflow_mul-t
overflow_mul-t c =
    let list = c.args.list.now in
    let i = c.loop-id.id-index in
    let left : FitsSigned w128 c.args.t.1 = search rules in
    let right : FitsSigned w128 (item list i).1 = search rules in
    subst (FitsSigned w128) (sym (coded_product_is c.args.t.1 (item list i).1 left right))
    (product_fits c.args.t list i c.loop-id-test.true c.args.sums.now.items c.requires.fits c.requires.words)

pub add_at-requires-clause-place : goal.add_at-requires-clause-place
add_at-requires-clause-place c =
    let within = word_within c.args.t c.args.list.now c.loop-id.id-index c.loop-id-test.true (length c.args.sums.now.items) c.requires.words in
    omega (arith, within, c.loop-id.invariant.whole)

pub add_at-requires-clause-fits : goal.add_at-requires-clause-fits
add_at-requires-clause-fits c =
    let t = c.args.t in
    let list = c.args.list.now in
    let i = c.loop-id.id-index in
    let first = c.args.sums.now.items in
    let left : FitsSigned w128 t.1 = search rules in
    let right : FitsSigned w128 (item list i).1 = search rules in
    let fits = product_fits t list i c.loop-id-test.true first c.requires.fits c.requires.words in
    sum_fits t list i c.loop-id-test.true first c.requires.fits c.requires.words c.loop-id.sums.items c.loop-id.invariant.sums _
    (product_is_kept t.1 (item list i).1 left right fits)

pub loop-id-preserved : goal.loop-id-preserved
loop-id-preserved c =
    let t = c.args.t in
    let list = c.args.list.now in
    let i = c.loop-id.id-index in
    let first = c.args.sums.now.items in
    let left : FitsSigned w128 t.1 = search rules in
    let right : FitsSigned w128 (item list i).1 = search rules in
    let fits = product_fits t list i c.loop-id-test.true first c.requires.fits c.requires.words in
    record {
      whole = c.add_at.ensures.whole ∙ c.loop-id.invariant.whole;
      sums = sums_more t list i c.loop-id-test.true first c.requires.fits c.requires.words c.loop-id.sums.items c.loop-id.invariant.sums _
          (product_is_kept t.1 (item list i).1 left right fits) c.add_at.new.sums.items c.add_at.ensures.place c.add_at.ensures.others;
    }
