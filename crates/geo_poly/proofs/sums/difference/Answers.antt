use Rattle.std.proofs.Common.{sym, ap, subst, ◌∙◌, arith}
use Rattle.std.proofs.lemmas.Result.{IfOk-weaker}
use Rattle.sparse_lists.specs.SparseLists.{AllKeys}
use Rattle.geo_poly.specs.Polynomials.{IsPolynomial, norm_of, sum_of}
use Rattle.geo_poly.specs.Shared.{Indices, IsIndex, told, terms_of}
use Rattle.geo_poly.proofs.Negated.{IsPolynomial-negated, norm_of-negated}
use Rattle.geo_poly.proofs.sums.difference.Goals as goal

pub sum-requires-clause-right : goal.sum-requires-clause-right
sum-requires-clause-right c =
    let q = c.args.q.now in
    let is = ap (terms_of q.vars.now q.monos.now) c.as_slice.ensures.value ∙ c.in_ok-opposite.ensures.negated in
    record {
      rising = c.requires.right.rising;
      indices = subst (λ (list : Indices). AllKeys (IsIndex q.vars.now q.monos.now) list) (sym c.as_slice.ensures.value) c.in_ok-opposite.ensures.indices;
      polynomial = subst IsPolynomial (sym is) (IsPolynomial-negated (told q) c.requires.right.polynomial);
    }

pub sum-requires-clause-fits : goal.sum-requires-clause-fits
sum-requires-clause-fits c =
    let q = c.args.q.now in
    let is = ap (terms_of q.vars.now q.monos.now) c.as_slice.ensures.value ∙ c.in_ok-opposite.ensures.negated in
    omega (arith, ap norm_of is, norm_of-negated (told q), c.requires.fits)

pub returns : goal.returns
returns c =
    let q = c.args.q.now in
    let is = ap (terms_of q.vars.now q.monos.now) c.as_slice.ensures.value ∙ c.in_ok-opposite.ensures.negated in
    IfOk-weaker c.sum.result _ _ (λ s h. h ∙ ap (sum_of (told c.args.p.now)) is) c.sum.ensures
