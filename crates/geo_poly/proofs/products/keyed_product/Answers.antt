use Rattle.std.proofs.Common.{◌+◌, refl, sym, ap, ap₂, subst, ◌∙◌, arith}
use Rattle.std.proofs.lemmas.Result.{IfOk-weaker}
use Rattle.geo_poly.specs.Inner.Keyed.{AreInReach, greatest_exponent, terms_under}
use Rattle.geo_poly.specs.Inner.Words.{word_keys}
use Rattle.geo_poly.specs.Polynomials.{CanMultiply, Summands, product_of}
use Rattle.geo_poly.specs.Shared.{told}
use Rattle.geo_poly.proofs.InReach.{AreInReach-kept, less_within}
use Rattle.geo_poly.proofs.KeysKept.{indices_under-kept, terms_under-kept}
use Rattle.geo_poly.proofs.products.keyed_product.Goals as goal

pub keyed-requires-clause-reach : goal.keyed-requires-clause-reach
keyed-requires-clause-reach c =
    let p = told c.args.p.now in
    let q = told c.args.q.now in
    let keys = word_keys c.args.words.now in
    less_within c.args.vars.now keys keys (λ v. greatest_exponent v p + greatest_exponent v q) (λ v. greatest_exponent v p) refl (λ v. omega arith)
    c.requires.reach

pub keyed-requires-2-clause-reach : goal.keyed-requires-2-clause-reach
keyed-requires-2-clause-reach c =
    let p = told c.args.p.now in
    let q = told c.args.q.now in
    let old = word_keys c.args.words.now in
    let new = word_keys c.keyed.new.keys in
    less_within c.args.vars.now old new (λ v. greatest_exponent v p + greatest_exponent v q) (λ v. greatest_exponent v q) c.in_ok-left.ensures.kept.limits
    (λ v. omega arith) c.requires.reach

pub word_product-requires-clause-left : goal.word_product-requires-clause-left
word_product-requires-clause-left c =
    rw c.deref.ensures.value (indices_under-kept c.args.vars.now (word_keys c.keyed.new.keys) (word_keys c.keyed-2.new.keys)
    c.in_ok-left.left.items c.in_ok-right.ensures.kept c.in_ok-left.ensures.indices)

pub word_product-requires-clause-fits : goal.word_product-requires-clause-fits
word_product-requires-clause-fits c =
    let vars = c.args.vars.now in
    let first = word_keys c.keyed.new.keys in
    let second = word_keys c.keyed-2.new.keys in
    let left = ap (terms_under vars second) c.deref.ensures.value
    ∙ terms_under-kept vars first second c.in_ok-left.left.items c.in_ok-right.ensures.kept c.in_ok-left.ensures.indices ∙ c.in_ok-left.ensures.terms in
    let right = ap (terms_under vars second) c.deref-2.ensures.value ∙ c.in_ok-right.ensures.terms in
    subst (λ (p : Summands). CanMultiply p (terms_under vars second c.deref-2.result.now)) (sym left)
    (subst (λ (q : Summands). CanMultiply (told c.args.p.now) q) (sym right) c.requires.fits)

pub word_product-requires-clause-reach : goal.word_product-requires-clause-reach
word_product-requires-clause-reach c =
    let vars = c.args.vars.now in
    let old = word_keys c.args.words.now in
    let first = word_keys c.keyed.new.keys in
    let second = word_keys c.keyed-2.new.keys in
    let left = ap (terms_under vars second) c.deref.ensures.value
    ∙ terms_under-kept vars first second c.in_ok-left.left.items c.in_ok-right.ensures.kept c.in_ok-left.ensures.indices ∙ c.in_ok-left.ensures.terms in
    let right = ap (terms_under vars second) c.deref-2.ensures.value ∙ c.in_ok-right.ensures.terms in
    let limits = c.in_ok-right.ensures.kept.limits ∙ c.in_ok-left.ensures.kept.limits in
    subst (λ (p : Summands). AreInReach vars second p (terms_under vars second c.deref-2.result.now)) (sym left)
    (subst (λ (q : Summands). AreInReach vars second (told c.args.p.now) q) (sym right)
    (AreInReach-kept vars old second (told c.args.p.now) (told c.args.q.now) limits c.requires.reach))

pub returns-clause-product : goal.returns-clause-product
returns-clause-product c =
    let vars = c.args.vars.now in
    let first = word_keys c.keyed.new.keys in
    let second = word_keys c.keyed-2.new.keys in
    let left = ap (terms_under vars second) c.deref.ensures.value
    ∙ terms_under-kept vars first second c.in_ok-left.left.items c.in_ok-right.ensures.kept c.in_ok-left.ensures.indices ∙ c.in_ok-left.ensures.terms in
    let right = ap (terms_under vars second) c.deref-2.ensures.value ∙ c.in_ok-right.ensures.terms in
    IfOk-weaker c.word_product.result _ _ (λ list h. h ∙ ap₂ product_of left right) c.word_product.ensures.product
