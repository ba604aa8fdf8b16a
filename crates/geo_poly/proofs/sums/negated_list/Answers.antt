use Rattle.std.proofs.Common.{ℤ, [], ◌∷◌, ◌++◌, refl, sym, ap, ap₂, ◌∙◌}
use Rattle.sparse_lists.proofs.Sums.{AllKeys-append}
use Rattle.geo_poly.specs.Polynomials.{Summands}
use Rattle.geo_poly.specs.Shared.{IsIndex, powers_at, term_of, terms_of}
use Rattle.geo_poly.proofs.IndexSums.{list_fits, list_index, list_is, list_small, list_within, negated-more, negation_fits, terms-append}
use Rattle.geo_poly.proofs.SignedContent.{negated_number}
use Rattle.geo_poly.proofs.Told.{item}
use Rattle.geo_poly.proofs.sums.negated_list.Goals as goal

pub overflow_sub-coefficient : goal.overflow_sub-coefficient
overflow_sub-coefficient c =
    let vars = c.args.p.now.vars.now in
    let store = c.args.p.now.monos.now in
    let list = c.args.p.now.list.now in
    let i = c.loop-id.id-index in
    negation_fits (item list i).1 (list_fits vars store list i c.loop-id-test.true c.requires.polynomial.norm_fits) (list_small vars store list i c.loop-id-test.true c.requires.polynomial.norm_fits)

pub loop-id-preserved : goal.loop-id-preserved
loop-id-preserved c =
    let vars = c.args.p.now.vars.now in
    let store = c.args.p.now.monos.now in
    let list = c.args.p.now.list.now in
    let i = c.loop-id.id-index in
    let done = c.loop-id.opposite.items in
    let id = (item list i).0 in
    let opposite = negated_number (item list i).1 _ (list_fits vars store list i c.loop-id-test.true c.requires.polynomial.norm_fits)
    (list_small vars store list i c.loop-id-test.true c.requires.polynomial.norm_fits) refl in
    record {
      indices = rw c.in_ok-push.ensures.items (AllKeys-append (IsIndex vars store) done _ c.loop-id.invariant.indices (list_index vars store list i c.loop-id-test.true c.requires.indices, tt));
      terms = ap (terms_of vars store) c.in_ok-push.ensures.items
          ∙ terms-append vars store done _
          ∙ ap₂ (λ (ts : Summands) (z : ℤ). ts ++ (powers_at vars store id, z) ∷ []) c.loop-id.invariant.terms opposite
          ∙ sym (negated-more (terms_of vars store list) i (term_of vars store (item list i)) (list_within vars store list i c.loop-id-test.true) (list_is vars store list i c.loop-id-test.true));
    }
