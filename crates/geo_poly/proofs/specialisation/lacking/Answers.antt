use Rattle.std.proofs.Common.{◌≡◌, ℕ, ◌^◌, ◌<◌, ℤ, pos, eqb, Bool, true, false, cond, [], ◌∷◌, ◌++◌, filter, take, sym, ap, ap₂, subst, ◌∙◌, rules, arith}
use Rattle.std.specs.Int.{w128}
use Rattle.std.proofs.lemmas.Bool.Decides.{nat_tests}
use Rattle.std.proofs.lemmas.Int.{to_z-of_z}
use Rattle.std.proofs.lemmas.List.{map-append, take_all}
use Rattle.sparse_lists.proofs.Sums.{AllKeys-append}
use Rattle.geo_poly.specs.Polynomials.{Summands, IsPolynomial}
use Rattle.geo_poly.specs.Shared.{IsIndexOf, term_of, terms_of, told, told_powers, told_term}
use Rattle.geo_poly.specs.Specialise.{specialised, specialised_weight}
use Rattle.geo_poly.proofs.Entries.{item_fits}
use Rattle.geo_poly.proofs.SpecialisedLaws.{IsPolynomial-specialised, small_weight}
use Rattle.geo_poly.proofs.Told.{index_at, item, length-terms_of, monomial_at, told-is, told-within}
use Rattle.geo_poly.proofs.ZeroPut.{lacking-more, specialised-zero}
use Rattle.geo_poly.specs.Inner.Parts.{lacks}
use Rattle.geo_poly.proofs.specialisation.lacking.Goals as goal
use Rattle.geo_poly.proofs.specialisation.lacking.Goals.{After-loop-id, then-exponent_at-eq0+in_ok-push, else-exponent_at-eq0}

differs : (n : ℕ) → (n ≡ 0 → ⊥) → eqb n 0 ≡ false
differs n h = grind (arith, nat_tests)

pub exponent_at-requires-clause-index : goal.exponent_at-requires-clause-index
exponent_at-requires-clause-index c = index_at c.args.p.now c.loop-id.id-index c.loop-id-test.true c.requires

pub exponent_at-requires-clause-monomial : goal.exponent_at-requires-clause-monomial
exponent_at-requires-clause-monomial c = monomial_at c.args.p.now c.loop-id.id-index c.loop-id-test.true c.requires

pub loop-id-preserved : goal.loop-id-preserved
loop-id-preserved c =
    let p = c.args.p.now in
    let v = c.args.v in
    let i = c.loop-id.id-index in
    let t = told_term p (item p.list.now i) in
    let so_far = filter (lacks v) (take i (told p)) in
    let fits = item_fits p i c.loop-id-test.true c.requires.polynomial.norm_fits in
    let more = lacking-more v (told p) i t (told-within p i c.loop-id-test.true) (told-is p i c.loop-id-test.true) in
    elim c.if-exponent_at-eq0.branch [
      | then-exponent_at-eq0+in_ok-push w ↦
          let lacking : lacks c.args.v (told_term c.args.p.now (item c.args.p.now.list.now c.loop-id.id-index)) ≡ true =
          ap (λ (e : ℕ). eqb e 0) (sym c.exponent_at.ensures ∙ w.if-exponent_at-eq0.true) in
          record {
            indices = rw (w.list-is, w.in_ok-push.ensures.items)
                (AllKeys-append (IsIndexOf p) c.loop-id.list.items _ c.loop-id.invariant.indices (index_at p i c.loop-id-test.true c.requires, tt));
            terms = rw (w.list-is, w.in_ok-push.ensures.items)
                (map-append (term_of p.vars.now p.monos.now) c.loop-id.list.items _
                ∙ ap₂ (λ (ts : Summands) (z : ℤ). ts ++ (told_powers p (item p.list.now i).0, z) ∷ []) c.loop-id.invariant.terms (to_z-of_z w128 (item p.list.now i).1 fits)
                ∙ ap (λ (b : Bool). so_far ++ cond b (t ∷ []) []) (sym lacking) ∙ sym more);
          }
      | else-exponent_at-eq0 w ↦
          let kept : lacks c.args.v (told_term c.args.p.now (item c.args.p.now.list.now c.loop-id.id-index)) ≡ false =
          differs _ (λ e. w.if-exponent_at-eq0.false (c.exponent_at.ensures ∙ e)) in
          record {
            indices = rw w.list-is c.loop-id.invariant.indices;
            terms = rw w.list-is (c.loop-id.invariant.terms ∙ sym (append_nil so_far) ∙ ap (λ (b : Bool). so_far ++ cond b (t ∷ []) []) (sym kept) ∙ sym more);
          }
    ]
  where
    append_nil : (xs : Summands) → xs ++ [] ≡ xs
    append_nil xs = search rules

terms_are : (c : After-loop-id) → terms_of c.args.p.now.vars.now c.args.p.now.monos.now c.loop-id.list.items ≡ specialised c.args.v (pos 0) (told c.args.p.now)
terms_are c =
    let p = c.args.p.now in
    c.loop-id.invariant.terms
    ∙ ap (filter (lacks c.args.v)) (take_all c.loop-id.id-index (told p) (omega (arith, length-terms_of p.vars.now p.monos.now p.list.now, c.loop-id-test.false)))
    ∙ sym (specialised-zero c.args.v (told p) c.requires.polynomial.in_order c.requires.polynomial.monomials)

pub returns-clause-parts : goal.returns-clause-parts
returns-clause-parts c =
    let p = c.args.p.now in
    let light : specialised_weight c.args.v (pos 0) (told c.args.p.now) < 2 ^ 127 =
    omega (arith, small_weight c.args.v (pos 0) (told c.args.p.now) (omega arith), c.requires.polynomial.norm_fits) in
    record {
      rising = c.requires.rising;
      indices = c.loop-id.invariant.indices;
      polynomial = subst IsPolynomial (sym (terms_are c)) (IsPolynomial-specialised c.args.v (pos 0) (told p) c.requires.polynomial.monomials light);
    }

pub returns-clause-terms : goal.returns-clause-terms
returns-clause-terms c = terms_are c
