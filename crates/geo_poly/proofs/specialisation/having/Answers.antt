use Rattle.std.proofs.Common.{◌≡◌, ℕ, ℤ, eqb, not, Bool, true, false, cond, [], ◌∷◌, ◌++◌, filter, take, sym, ap, ap₂, subst, ◌∙◌, arith}
use Rattle.std.specs.Int.{w128}
use Rattle.std.proofs.lemmas.Bool.Decides.{nat_tests}
use Rattle.std.proofs.lemmas.Int.{to_z-of_z}
use Rattle.std.proofs.lemmas.List.{append-nil, map-append, take_all}
use Rattle.sparse_lists.proofs.Sums.{AllKeys-append}
use Rattle.geo_poly.specs.Inner.Parts.{has}
use Rattle.geo_poly.specs.Polynomials.{Summands, IsPolynomial}
use Rattle.geo_poly.specs.Shared.{IsIndexOf, term_of, terms_of, told, told_powers, told_term}
use Rattle.geo_poly.proofs.ChangedParts.{IsPolynomial-filter}
use Rattle.geo_poly.proofs.Entries.{item_fits}
use Rattle.geo_poly.proofs.Told.{index_at, item, length-terms_of, monomial_at, told-is, told-within}
use Rattle.geo_poly.proofs.ZeroPut.{filter-more}
use Rattle.geo_poly.proofs.specialisation.having.Goals as goal
use Rattle.geo_poly.proofs.specialisation.having.Goals.{After-loop-id, then-exponent_at-ne0+in_ok-push, else-exponent_at-ne0}

differs : (n : ℕ) → (n ≡ 0 → ⊥) → eqb n 0 ≡ false
differs n h = grind (arith, nat_tests)

pub exponent_at-requires-clause-index : goal.exponent_at-requires-clause-index
exponent_at-requires-clause-index c = index_at c.args.p.now c.loop-id.id-index c.loop-id-test.true c.requires

pub exponent_at-requires-clause-monomial : goal.exponent_at-requires-clause-monomial
exponent_at-requires-clause-monomial c = monomial_at c.args.p.now c.loop-id.id-index c.loop-id-test.true c.requires

pub loop-id-preserved : goal.loop-id-preserved
loop-id-preserved c =
    let p = c.args.p.now in
    let v = c.args.v in
    let i = c.loop-id.id-index in
    let t = told_term p (item p.list.now i) in
    let so_far = filter (has v) (take i (told p)) in
    let fits = item_fits p i c.loop-id-test.true c.requires.polynomial.norm_fits in
    let more = filter-more (has v) (told p) i t (told-within p i c.loop-id-test.true) (told-is p i c.loop-id-test.true) in
    elim c.if-exponent_at-ne0.branch [
      | then-exponent_at-ne0+in_ok-push w ↦
          let kept : has c.args.v (told_term c.args.p.now (item c.args.p.now.list.now c.loop-id.id-index)) ≡ true =
          ap not (differs _ (λ e. w.if-exponent_at-ne0.true (c.exponent_at.ensures ∙ e))) in
          record {
            indices = rw (w.list-is, w.in_ok-push.ensures.items)
                (AllKeys-append (IsIndexOf p) c.loop-id.list.items _ c.loop-id.invariant.indices (index_at p i c.loop-id-test.true c.requires, tt));
            terms = rw (w.list-is, w.in_ok-push.ensures.items)
                (map-append (term_of p.vars.now p.monos.now) c.loop-id.list.items _
                ∙ ap₂ (λ (ts : Summands) (z : ℤ). ts ++ (told_powers p (item p.list.now i).0, z) ∷ []) c.loop-id.invariant.terms (to_z-of_z w128 (item p.list.now i).1 fits)
                ∙ ap (λ (b : Bool). so_far ++ cond b (t ∷ []) []) (sym kept) ∙ sym more);
          }
      | else-exponent_at-ne0 w ↦
          let dropped : has c.args.v (told_term c.args.p.now (item c.args.p.now.list.now c.loop-id.id-index)) ≡ false =
          ap (λ (e : ℕ). not (eqb e 0)) (sym c.exponent_at.ensures ∙ w.if-exponent_at-ne0.false) in
          record {
            indices = rw w.list-is c.loop-id.invariant.indices;
            terms = rw w.list-is (c.loop-id.invariant.terms ∙ sym (append-nil so_far) ∙ ap (λ (b : Bool). so_far ++ cond b (t ∷ []) []) (sym dropped) ∙ sym more);
          }
    ]

terms_are : (c : After-loop-id) → terms_of c.args.p.now.vars.now c.args.p.now.monos.now c.loop-id.list.items ≡ filter (has c.args.v) (told c.args.p.now)
terms_are c =
    let p = c.args.p.now in
    c.loop-id.invariant.terms
    ∙ ap (filter (has c.args.v)) (take_all c.loop-id.id-index (told p) (omega (arith, length-terms_of p.vars.now p.monos.now p.list.now, c.loop-id-test.false)))

pub returns-clause-parts : goal.returns-clause-parts
returns-clause-parts c = record {
  rising = c.requires.rising;
  indices = c.loop-id.invariant.indices;
  polynomial = subst IsPolynomial (sym (terms_are c)) (IsPolynomial-filter (has c.args.v) (told c.args.p.now) c.requires.polynomial);
}

pub returns-clause-terms : goal.returns-clause-terms
returns-clause-terms c = terms_are c
