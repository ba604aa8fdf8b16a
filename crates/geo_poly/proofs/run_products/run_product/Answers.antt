use Rattle.std.proofs.Common.{◌≡◌, ◌++◌, ◌^◌, map, sym, ap, ap₂, subst, ◌∙◌, arith}
use Rattle.geo_poly.specs.Chained.{indexed_pair}
use Rattle.term_runs.specs.Runs.{IsRun, KeysFit, products, run_of}
use Rattle.geo_poly.proofs.RunProducts.{indexed-pairs, keyed-worded, pair_of, run_indices, run_terms, worded, words_fit, words_run}
use Rattle.geo_poly.proofs.run_products.run_product.Goals as goal

pub push_product-requires-clause-left : goal.push_product-requires-clause-left
push_product-requires-clause-left c =
    let first : map pair_of c.deref.result.now ≡ map worded c.args.left.now =
    ap (map pair_of) (c.deref.ensures.value ∙ c.in_ok-first.ensures) ∙ keyed-worded c.args.left.now in
    subst IsRun (sym first) (words_run c.args.vars.now c.requires.rising c.args.words.now c.args.left.now c.requires.left c.requires.fits.left_in_order)

pub push_product-requires-clause-right : goal.push_product-requires-clause-right
push_product-requires-clause-right c =
    let second : map pair_of c.deref-2.result.now ≡ map worded c.args.right.now =
    ap (map pair_of) (c.deref-2.ensures.value ∙ c.in_ok-second.ensures) ∙ keyed-worded c.args.right.now in
    subst IsRun (sym second) (words_run c.args.vars.now c.requires.rising c.args.words.now c.args.right.now c.requires.right c.requires.fits.right_in_order)

pub push_product-requires-clause-keys : goal.push_product-requires-clause-keys
push_product-requires-clause-keys c =
    let first : map pair_of c.deref.result.now ≡ map worded c.args.left.now =
    ap (map pair_of) (c.deref.ensures.value ∙ c.in_ok-first.ensures) ∙ keyed-worded c.args.left.now in
    let second : map pair_of c.deref-2.result.now ≡ map worded c.args.right.now =
    ap (map pair_of) (c.deref-2.ensures.value ∙ c.in_ok-second.ensures) ∙ keyed-worded c.args.right.now in
    subst (λ ps. KeysFit (2 ^ 64) ps (map pair_of c.deref-2.result.now)) (sym first)
    (subst (λ qs. KeysFit (2 ^ 64) (map worded c.args.left.now) qs) (sym second)
    (words_fit c.args.vars.now c.requires.rising c.args.words.now c.args.left.now c.args.right.now c.requires.left c.requires.right c.requires.reach c.words-count.result (2 ^ 64) c.words-count.ensures.count (omega (arith, c.words-count.ensures.count, c.words-count.ensures.few))))

pub returns-clause-indices : goal.returns-clause-indices
returns-clause-indices c =
    let first : map pair_of c.deref.result.now ≡ map worded c.args.left.now =
    ap (map pair_of) (c.deref.ensures.value ∙ c.in_ok-first.ensures) ∙ keyed-worded c.args.left.now in
    let second : map pair_of c.deref-2.result.now ≡ map worded c.args.right.now =
    ap (map pair_of) (c.deref-2.ensures.value ∙ c.in_ok-second.ensures) ∙ keyed-worded c.args.right.now in
    let whole = run_of (products (map worded c.args.left.now) (map worded c.args.right.now)) in
    let made : c.push_product.new.self ≡ whole =
    c.in_ok-push_product.ensures
    ∙ ap₂ (λ ps qs. ps ++ qs) c.new-runs.ensures (ap₂ (λ ps qs. run_of (products ps qs)) first second) in
    let shown : map pair_of c.terms_from.result.now ≡ whole = c.terms_from.ensures ∙ made in
    let is = indexed-pairs c.terms_from.result.now ∙ ap (map indexed_pair) shown in
    run_indices c.args.vars.now c.requires.rising c.args.words.now c.args.left.now c.args.right.now c.requires.left c.requires.right c.requires.reach c.in_ok-list.list.items (c.in_ok-list.ensures ∙ is)

pub returns-clause-product : goal.returns-clause-product
returns-clause-product c =
    let first : map pair_of c.deref.result.now ≡ map worded c.args.left.now =
    ap (map pair_of) (c.deref.ensures.value ∙ c.in_ok-first.ensures) ∙ keyed-worded c.args.left.now in
    let second : map pair_of c.deref-2.result.now ≡ map worded c.args.right.now =
    ap (map pair_of) (c.deref-2.ensures.value ∙ c.in_ok-second.ensures) ∙ keyed-worded c.args.right.now in
    let whole = run_of (products (map worded c.args.left.now) (map worded c.args.right.now)) in
    let made : c.push_product.new.self ≡ whole =
    c.in_ok-push_product.ensures
    ∙ ap₂ (λ ps qs. ps ++ qs) c.new-runs.ensures (ap₂ (λ ps qs. run_of (products ps qs)) first second) in
    let shown : map pair_of c.terms_from.result.now ≡ whole = c.terms_from.ensures ∙ made in
    let is = indexed-pairs c.terms_from.result.now ∙ ap (map indexed_pair) shown in
    run_terms c.args.vars.now c.requires.rising c.args.words.now c.args.left.now c.args.right.now c.requires.left c.requires.right c.requires.reach c.in_ok-list.list.items (c.in_ok-list.ensures ∙ is)
