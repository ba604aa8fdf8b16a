use Rattle.std.proofs.Common.{sym, ap, subst, ◌∙◌}
use Rattle.std.proofs.lemmas.Result.{IfOk-weaker}
use Rattle.geo_poly.specs.Polynomials.{IsPolynomial, sum_of}
use Rattle.geo_poly.specs.Shared.{told}
use Rattle.geo_poly.proofs.Unions.{other_indices, other_terms}
use Rattle.geo_poly.proofs.sums.sum_over.Goals as goal

pub sum_in-requires-clause-indices : goal.sum_in-requires-clause-indices
sum_in-requires-clause-indices c =
    other_indices c.args.p.now c.args.q.now c.requires.right c.in_ok-monos.monos c.in_ok-monos.ensures
    (c.has_words_of.ensures.vars c.if-has_words_of.true) (c.has_words_of.ensures.kept c.if-has_words_of.true)

pub sum_in-requires-clause-polynomial : goal.sum_in-requires-clause-polynomial
sum_in-requires-clause-polynomial c =
    subst IsPolynomial
    (sym (other_terms c.args.p.now c.args.q.now c.requires.right c.in_ok-monos.monos c.in_ok-monos.ensures
    (c.has_words_of.ensures.vars c.if-has_words_of.true) (c.has_words_of.ensures.kept c.if-has_words_of.true)))
    c.requires.right.polynomial

pub returns-then-has_words_of : goal.returns-then-has_words_of
returns-then-has_words_of c =
    let right = other_terms c.args.p.now c.args.q.now c.requires.right c.in_ok-monos.monos c.in_ok-monos.ensures
    (c.has_words_of.ensures.vars c.if-has_words_of.true) (c.has_words_of.ensures.kept c.if-has_words_of.true) in
    IfOk-weaker c.sum_in.result _ _ (λ s h. h ∙ ap (sum_of (told c.args.p.now)) right) c.sum_in.ensures
