use Rattle.std.proofs.Common.{◌≡◌, List, sym, subst, ◌∙◌}
use Rattle.std.proofs.lemmas.Result.{IfOk-weaker}
use Rattle.sparse_lists.specs.SparseLists.{AllKeys}
use Rattle.geo_poly.specs.declared.variables.Var.{Var}
use Rattle.geo_poly.specs.Inner.Keyed.{IsIndexUnder, terms_under}
use Rattle.geo_poly.specs.Inner.Words.{word_keys}
use Rattle.geo_poly.specs.Polynomials.{IsPolynomial, product_of}
use Rattle.geo_poly.specs.Shared.{told}
use Rattle.geo_poly.proofs.ProductLaws.{IsPolynomial-product_of}
use Rattle.geo_poly.proofs.products.packed_product.Goals as goal

pub keyed_product-requires-clause-reach : goal.keyed_product-requires-clause-reach
keyed_product-requires-clause-reach c = rw c.as_slice-names.ensures (λ i known. c.requires.room.each i known)

pub of_words-requires-clause-indices : goal.of_words-requires-clause-indices
of_words-requires-clause-indices c =
    let keys = word_keys c.keyed_product.new.words in
    let list = c.in_ok-list.list.items in
    subst (λ (vs : List Var). AllKeys (IsIndexUnder vs keys) list) c.as_slice-names.ensures c.in_ok-list.ensures.indices

pub of_words-requires-clause-polynomial : goal.of_words-requires-clause-polynomial
of_words-requires-clause-polynomial c =
    let keys = word_keys c.keyed_product.new.words in
    let list = c.in_ok-list.list.items in
    let p = told c.args.p.now in
    let q = told c.args.q.now in
    let whole = subst (λ (vs : List Var). terms_under vs keys list ≡ product_of p q) c.as_slice-names.ensures c.in_ok-list.ensures.product in
    subst IsPolynomial (sym whole) (IsPolynomial-product_of p q c.requires.fits.norm_fits c.requires.fits.degree_fits)

pub returns : goal.returns
returns c =
    let keys = word_keys c.keyed_product.new.words in
    let list = c.in_ok-list.list.items in
    let p = told c.args.p.now in
    let q = told c.args.q.now in
    let whole = subst (λ (vs : List Var). terms_under vs keys list ≡ product_of p q) c.as_slice-names.ensures c.in_ok-list.ensures.product in
    IfOk-weaker c.of_words.result _ _ (λ s h. h ∙ whole) c.of_words.ensures
