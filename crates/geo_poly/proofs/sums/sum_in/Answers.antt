use Rattle.std.proofs.Common.{◌≡◌, List, refl, sym, ap, subst, ◌∙◌, arith}
use Rattle.std.proofs.lemmas.Result.{IfOk-weaker}
use Rattle.std.specs.List.Sorted.{IsStrictlySortedBy}
use Rattle.sparse_lists.specs.SparseLists.{AllKeys, IsCanonical}
use Rattle.geo_poly.specs.declared.variables.Var.{Var}
use Rattle.sparse_lists.specs.Coefficients.{coefficients}
use Rattle.geo_poly.specs.Polynomials.{IsPolynomial, Summands, norm_of, sum_of, term_cmp}
use Rattle.geo_poly.specs.Shared.{IsIndex, terms_of, told}
use Rattle.geo_poly.specs.Variables.{var_cmp}
use Rattle.geo_poly.proofs.PolynomialLaws.{IsPolynomial-sum_of}
use Rattle.geo_poly.proofs.Unions.{own_indices, own_terms}
use Rattle.geo_poly.proofs.sums.sum_in.Goals as goal

pub merged_lists-requires-clause-left_indices : goal.merged_lists-requires-clause-left_indices
merged_lists-requires-clause-left_indices c =
    own_indices c.args.p.now c.requires.parts c.args.p.now.monos.now c.args.monos refl c.requires.kept

pub merged_lists-requires-clause-left : goal.merged_lists-requires-clause-left
merged_lists-requires-clause-left c =
    subst (IsCanonical term_cmp coefficients)
    (sym (own_terms c.args.p.now c.requires.parts c.args.p.now.monos.now c.args.monos refl c.requires.kept))
    c.requires.parts.polynomial.in_order

pub merged_lists-requires-clause-fits : goal.merged_lists-requires-clause-fits
merged_lists-requires-clause-fits c =
    let left = own_terms c.args.p.now c.requires.parts c.args.p.now.monos.now c.args.monos refl c.requires.kept in
    omega (arith, ap norm_of left, c.requires.fits)

pub compact-requires : goal.compact-requires
compact-requires c =
    let vars = c.args.p.now.vars.now in
    let store = c.args.monos in
    let right = terms_of vars store c.args.right.now in
    let left = own_terms c.args.p.now c.requires.parts c.args.p.now.monos.now store refl c.requires.kept in
    let whole : terms_of c.in_ok-items.items.items c.args.monos c.in_ok-list.list.items
    ≡ sum_of (told c.args.p.now) (terms_of c.args.p.now.vars.now c.args.monos c.args.right.now) =
    subst (λ (vs : List Var). terms_of vs store c.in_ok-list.list.items ≡ sum_of (told c.args.p.now) right)
    (sym c.in_ok-items.ensures.items) (c.in_ok-list.ensures.sum ∙ ap (λ (p : Summands). sum_of p right) left) in
    record {
      rising = subst (λ (vs : List Var). IsStrictlySortedBy var_cmp vs) (sym c.in_ok-items.ensures.items) c.requires.parts.rising;
      indices = subst (λ (vs : List Var). AllKeys (IsIndex vs store) c.in_ok-list.list.items)
          (sym c.in_ok-items.ensures.items) c.in_ok-list.ensures.indices;
      polynomial = subst IsPolynomial (sym whole)
          (IsPolynomial-sum_of (told c.args.p.now) right c.requires.parts.polynomial c.requires.polynomial c.requires.fits);
    }

pub returns : goal.returns
returns c =
    let vars = c.args.p.now.vars.now in
    let store = c.args.monos in
    let right = terms_of vars store c.args.right.now in
    let left = own_terms c.args.p.now c.requires.parts c.args.p.now.monos.now store refl c.requires.kept in
    let whole : terms_of c.in_ok-items.items.items c.args.monos c.in_ok-list.list.items
    ≡ sum_of (told c.args.p.now) (terms_of c.args.p.now.vars.now c.args.monos c.args.right.now) =
    subst (λ (vs : List Var). terms_of vs store c.in_ok-list.list.items ≡ sum_of (told c.args.p.now) right)
    (sym c.in_ok-items.ensures.items) (c.in_ok-list.ensures.sum ∙ ap (λ (p : Summands). sum_of p right) left) in
    IfOk-weaker c.compact.result _ _ (λ s h. h ∙ whole) c.compact.ensures
