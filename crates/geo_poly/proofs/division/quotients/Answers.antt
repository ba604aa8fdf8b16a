use Rattle.std.proofs.Common.{◌≡◌, ℤ, ◌*ℤ◌, FitsSigned, to_z, of_z, sym, ap, ◌∙◌, rules}
use Rattle.std.specs.Int.{w128}
use Rattle.std.proofs.lemmas.Int.{to_z-of_z}
use Rattle.geo_poly.specs.Monomials.{Powers, IsMonomial, product}
use Rattle.geo_poly.specs.Division.{IsNoMultiple}
use Rattle.sparse_lists.proofs.Sums.{AllKeys-append}
use Rattle.geo_poly.proofs.ExactQuotient.{multiple_at, multiples_push}
use Rattle.geo_poly.proofs.division.quotients.Goals as goal

pub returns-in-None-clause-none : goal.returns-in-None-clause-none
returns-in-None-clause-none c = λ q e.
    let t = c.term-item.result in
    let left : FitsSigned w128 c.args.coefficient = search rules in
    let right : FitsSigned w128 c.term-item.result.1 = search rules in
    multiple_at (c.args.monomial.now, c.args.coefficient) q c.args.terms.now c.loop-term.term-index t e c.loop-term-test.true c.term-item.is
    (λ u same. c.in-None.ensures.none u.1
    (ap (λ d. d *ℤ u.1) (to_z-of_z w128 c.args.coefficient left) ∙ sym (ap (λ (x : Powers × ℤ). x.1) same) ∙ sym (to_z-of_z w128 t.1 right)))

pub returns-in-None-2-clause-none : goal.returns-in-None-2-clause-none
returns-in-None-2-clause-none c = λ q e.
    let t = c.term-item.result in
    let none : IsNoMultiple c.args.monomial.now c.term-item.result.0 = rw c.in-None-2.is at c.in_ok-over.ensures.none in
    multiple_at (c.args.monomial.now, c.args.coefficient) q c.args.terms.now c.loop-term.term-index t e c.loop-term-test.true c.term-item.is
    (λ u same. none u.0 (sym (ap (λ (x : Powers × ℤ). x.0) same)))

pub loop-term-preserved : goal.loop-term-preserved
loop-term-preserved c =
    let t = c.term-item.result in
    let right : FitsSigned w128 c.term-item.result.1 = search rules in
    let fits : FitsSigned w128 c.in-Some.quotient = search rules in
    let monomial : product c.args.monomial.now c.in-Some-2.over ≡ c.term-item.result.0 = rw c.in-Some-2.is at c.in_ok-over.ensures.some in
    let number : to_z w128 (of_z w128 c.args.coefficient) *ℤ c.in-Some.quotient ≡ c.term-item.result.1 = c.in-Some.ensures.some ∙ to_z-of_z w128 t.1 right in
    let one : IsMonomial c.in-Some-2.over = rw c.in-Some-2.is at c.in_ok-over.ensures.monomial in
    record {
      so_far = rw (c.in_ok-push-in-Some-2.ensures.items, to_z-of_z w128 c.in-Some.quotient fits)
          (multiples_push (c.args.monomial.now, to_z w128 (of_z w128 c.args.coefficient)) c.loop-term.rest.items c.args.terms.now
          c.loop-term.term-index t (c.in-Some-2.over, c.in-Some.quotient) c.loop-term.invariant.so_far c.loop-term-test.true
          c.term-item.is monomial number);
      monomials = rw c.in_ok-push-in-Some-2.ensures.items (AllKeys-append IsMonomial c.loop-term.rest.items _ c.loop-term.invariant.monomials (one, tt));
    }
