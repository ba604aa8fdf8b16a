use Rattle.std.proofs.Common.{◌≡◌, List, sym, ap, ap₂, subst, ◌∙◌}
use Rattle.std.proofs.lemmas.Result.{IfOk-weaker}
use Rattle.std.specs.List.Sorted.{IsStrictlySortedBy}
use Rattle.sparse_lists.specs.SparseLists.{AllKeys}
use Rattle.geo_poly.specs.declared.variables.Var.{Var}
use Rattle.geo_poly.specs.Polynomials.{CanMultiply, IsPolynomial, Summands, product_of}
use Rattle.geo_poly.specs.Shared.{IsIndex, terms_of, told}
use Rattle.geo_poly.specs.Variables.{var_cmp}
use Rattle.geo_poly.proofs.ProductLaws.{IsPolynomial-product_of}
use Rattle.geo_poly.proofs.Unions.{own_indices, own_terms}
use Rattle.geo_poly.proofs.products.product_over.Goals as goal

pub product_list-requires-clause-left : goal.product_list-requires-clause-left
product_list-requires-clause-left c = own_indices c.args.p.now c.requires.left c.in_ok-monos.monos c.moved.new.store c.in_ok-monos.ensures c.in_ok-right.ensures.kept

pub product_list-requires-clause-fits : goal.product_list-requires-clause-fits
product_list-requires-clause-fits c =
    let vars = c.args.p.now.vars.now in
    let store = c.moved.new.store in
    let left = own_terms c.args.p.now c.requires.left c.in_ok-monos.monos store c.in_ok-monos.ensures c.in_ok-right.ensures.kept in
    let right = ap (terms_of vars store) c.deref.ensures.value ∙ c.in_ok-right.ensures.terms in
    subst (λ (p : Summands). CanMultiply p (terms_of vars store c.deref.result.now)) (sym left)
    (subst (λ (q : Summands). CanMultiply (told c.args.p.now) q) (sym right) c.requires.fits)

pub compact-requires : goal.compact-requires
compact-requires c =
    let vars = c.args.p.now.vars.now in
    let s = c.moved.new.store in
    let store = c.product_list.new.store in
    let left = own_terms c.args.p.now c.requires.left c.in_ok-monos.monos s c.in_ok-monos.ensures c.in_ok-right.ensures.kept in
    let right = ap (terms_of vars s) c.deref.ensures.value ∙ c.in_ok-right.ensures.terms in
    let whole : terms_of c.in_ok-items.items.items c.product_list.new.store c.in_ok-list.list.items ≡ product_of (told c.args.p.now) (told c.args.q.now) =
    subst (λ (vs : List Var). terms_of vs store c.in_ok-list.list.items ≡ product_of (told c.args.p.now) (told c.args.q.now))
    (sym c.in_ok-items.ensures.items) (c.in_ok-list.ensures.product ∙ ap₂ product_of left right) in
    record {
      rising = subst (λ (vs : List Var). IsStrictlySortedBy var_cmp vs) (sym c.in_ok-items.ensures.items) c.requires.left.rising;
      indices = subst (λ (vs : List Var). AllKeys (IsIndex vs store) c.in_ok-list.list.items) (sym c.in_ok-items.ensures.items) c.in_ok-list.ensures.indices;
      polynomial = subst IsPolynomial (sym whole) (IsPolynomial-product_of (told c.args.p.now) (told c.args.q.now) c.requires.fits.norm_fits c.requires.fits.degree_fits);
    }

pub returns : goal.returns
returns c =
    let vars = c.args.p.now.vars.now in
    let s = c.moved.new.store in
    let store = c.product_list.new.store in
    let left = own_terms c.args.p.now c.requires.left c.in_ok-monos.monos s c.in_ok-monos.ensures c.in_ok-right.ensures.kept in
    let right = ap (terms_of vars s) c.deref.ensures.value ∙ c.in_ok-right.ensures.terms in
    let whole : terms_of c.in_ok-items.items.items c.product_list.new.store c.in_ok-list.list.items ≡ product_of (told c.args.p.now) (told c.args.q.now) =
    subst (λ (vs : List Var). terms_of vs store c.in_ok-list.list.items ≡ product_of (told c.args.p.now) (told c.args.q.now))
    (sym c.in_ok-items.ensures.items) (c.in_ok-list.ensures.product ∙ ap₂ product_of left right) in
    IfOk-weaker c.compact.result _ _ (λ s h. h ∙ whole) c.compact.ensures
