use Rattle.std.proofs.Common.{subst, sym, FitsSigned, rules}
use Rattle.std.specs.Int.{w128}
use Rattle.mono_store.proofs.Interning.{Keeps_trans}
use Rattle.geo_poly.proofs.ChainMultiples.{degrees_fit, more_indices, more_terms, product_fits, u_now}
use Rattle.geo_poly.specs.Keys.{store_keys}
use Rattle.geo_poly.proofs.KeysKept.{keeps_keys}
use Rattle.geo_poly.proofs.ProductLaws.{coded_product_is, product_is_kept}
use Rattle.geo_poly.proofs.Told.{item}
use Rattle.geo_poly.proofs.multiples.multiples_list.Goals as goal

pub product-requires-clause-right : goal.product-requires-clause-right
product-requires-clause-right c =
    (u_now c.args.vars.now (store_keys c.args.store.now) c.args.t c.args.list.now c.loop-id.id-index c.loop-id-test.true c.requires.term
    c.requires.indices c.requires.fits c.requires.rising (store_keys c.loop-id.store) (keeps_keys c.args.store.now c.loop-id.store c.loop-id.invariant.kept)).within

pub product-requires-clause-degree : goal.product-requires-clause-degree
product-requires-clause-degree c =
    degrees_fit c.args.vars.now (store_keys c.args.store.now) c.args.t c.args.list.now c.loop-id.id-index c.loop-id-test.true c.requires.term
    c.requires.indices c.requires.fits c.requires.rising (store_keys c.loop-id.store) (keeps_keys c.args.store.now c.loop-id.store c.loop-id.invariant.kept)

pub overflow_mul-t : goal.overflow_mul-t
overflow_mul-t c =
    let left : FitsSigned w128 c.args.t.1 = search rules in
    let right : FitsSigned w128 (item c.args.list.now c.loop-id.id-index).1 = search rules in
    subst (FitsSigned w128) (sym (coded_product_is c.args.t.1 (item c.args.list.now c.loop-id.id-index).1 left right))
    (product_fits c.args.vars.now (store_keys c.args.store.now) c.args.t c.args.list.now c.loop-id.id-index c.loop-id-test.true c.requires.term c.requires.indices c.requires.fits)

pub loop-id-preserved : goal.loop-id-preserved
loop-id-preserved c =
    let vars = c.args.vars.now in
    let s0 = c.args.store.now in
    let s = c.loop-id.store in
    let new = c.product.new.self in
    let list = c.args.list.now in
    let i = c.loop-id.id-index in
    let kept = c.loop-id.invariant.kept in
    let kept2 = c.in_ok-monomial.ensures.kept in
    let k = c.in_ok-monomial.monomial in
    let left : FitsSigned w128 c.args.t.1 = search rules in
    let right : FitsSigned w128 (item c.args.list.now c.loop-id.id-index).1 = search rules in
    let fits = product_fits vars (store_keys s0) c.args.t list i c.loop-id-test.true c.requires.term c.requires.indices c.requires.fits in
    let coef = product_is_kept c.args.t.1 (item list i).1 left right fits in
    record {
      kept = Keeps_trans kept kept2;
      indices = rw c.in_ok-push.ensures.items
          (more_indices vars (store_keys s0) c.args.t list i c.loop-id-test.true c.requires.term c.requires.indices c.requires.fits c.requires.rising (store_keys s)
          (keeps_keys s0 s kept) (store_keys new) (keeps_keys s new kept2) k.0 c.in_ok-monomial.ensures.index c.in_ok-monomial.ensures.product _ coef c.loop-id.product.items
          c.loop-id.invariant.indices c.loop-id.invariant.terms);
      terms = rw c.in_ok-push.ensures.items
          (more_terms vars (store_keys s0) c.args.t list i c.loop-id-test.true c.requires.term c.requires.indices c.requires.fits c.requires.rising (store_keys s)
          (keeps_keys s0 s kept) (store_keys new) (keeps_keys s new kept2) k.0 c.in_ok-monomial.ensures.index c.in_ok-monomial.ensures.product _ coef c.loop-id.product.items
          c.loop-id.invariant.indices c.loop-id.invariant.terms);
    }
