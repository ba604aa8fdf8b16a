use Rattle.std.proofs.Common.{◌≡◌, List, sym, subst, ◌∙◌}
use Rattle.std.proofs.lemmas.Result.{IfOk-weaker}
use Rattle.sparse_lists.specs.SparseLists.{AllKeys}
use Rattle.geo_poly.specs.declared.variables.Var.{Var}
use Rattle.geo_poly.specs.Polynomials.{IsPolynomial, product_of}
use Rattle.geo_poly.specs.Shared.{IsIndex, terms_of, told}
use Rattle.geo_poly.proofs.ProductLaws.{IsPolynomial-product_of}
use Rattle.geo_poly.proofs.products.stored_product.Goals as goal

pub product_of_moved-requires-clause-left_known : goal.product_of_moved-requires-clause-left_known
product_of_moved-requires-clause-left_known c = rw c.as_slice.ensures c.requires.left_known

pub product_of_moved-requires-clause-right_known : goal.product_of_moved-requires-clause-right_known
product_of_moved-requires-clause-right_known c = rw c.as_slice.ensures c.requires.right_known

pub compact-requires : goal.compact-requires
compact-requires c =
    let store = c.product_of_moved.new.store in
    let list = c.in_ok-list.list.items in
    let whole = subst (λ (vs : List Var). terms_of vs store list ≡ product_of (told c.args.p.now) (told c.args.q.now)) c.as_slice.ensures c.in_ok-list.ensures.product in
    record {
      rising = c.requires.rising;
      indices = subst (λ (vs : List Var). AllKeys (IsIndex vs store) list) c.as_slice.ensures c.in_ok-list.ensures.indices;
      polynomial = subst IsPolynomial (sym whole) (IsPolynomial-product_of (told c.args.p.now) (told c.args.q.now) c.requires.fits.norm_fits c.requires.fits.degree_fits);
    }

pub returns : goal.returns
returns c =
    let whole = subst (λ (vs : List Var). terms_of vs c.product_of_moved.new.store c.in_ok-list.list.items ≡ product_of (told c.args.p.now)
    (told c.args.q.now)) c.as_slice.ensures c.in_ok-list.ensures.product in
    IfOk-weaker c.compact.result _ _ (λ s h. h ∙ whole) c.compact.ensures
