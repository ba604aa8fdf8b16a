use Rattle.std.proofs.Common.{◌≡◌, ◌+◌, ◌%◌, ◌^◌, ◌<◌, ℤ, unsigned_abs, ◌*ℤ◌, ◌∷◌, [], FitsSigned, to_z, of_z, sym, ap, subst, ◌∙◌, rules}
use Rattle.std.specs.Int.{w128}
use Rattle.std.proofs.lemmas.Int.{to_z-of_z}
use Rattle.std.proofs.lemmas.List.{map-append}
use Rattle.sparse_lists.specs.SparseLists.{AllKeys}
use Rattle.sparse_lists.proofs.Sums.{AllKeys-append}
use Rattle.mono_store.specs.declared.links.MonoId.{MonoId}
use Rattle.geo_poly.specs.Inner.WordDivisors.{divisor_powers}
use Rattle.geo_poly.specs.Monomials.{IsMonomial}
use Rattle.geo_poly.specs.Polynomials.{Summands, multiples}
use Rattle.geo_poly.specs.Shared.{IsIndexOf, term_of, terms_of, told, told_powers, told_term}
use Rattle.geo_poly.proofs.DividedWords.{over_index, over_monomial, over_product}
use Rattle.geo_poly.proofs.Entries.{item_fits, item_small}
use Rattle.geo_poly.proofs.ExactQuotient.{multiples_push}
use Rattle.geo_poly.proofs.Told.{index_at, item, told-is, told-within}
use Rattle.geo_poly.proofs.word_division.word_quotients.Goals as goal

pub exact_quotient-requires-clause-fits : goal.exact_quotient-requires-clause-fits
exact_quotient-requires-clause-fits c =
    let p = c.args.p.now in
    let i = c.loop-id.id-index in
    subst (λ (z : ℤ). unsigned_abs z < 2 ^ 127)
    (sym (to_z-of_z w128 (item p.list.now i).1 (item_fits p i c.loop-id-test.true c.requires.parts.polynomial.norm_fits)))
    (item_small p i c.loop-id-test.true c.requires.parts.polynomial.norm_fits)

pub loop-id-preserved : goal.loop-id-preserved
loop-id-preserved c =
    let p = c.args.p.now in
    let d = c.args.by in
    let i = c.loop-id.id-index in
    let list = c.loop-id.list.items in
    let within = c.loop-id-test.true in
    let id = (item p.list.now i).0 in
    let index = index_at p i within c.requires.parts in
    let w = c.in-Some.rest in
    let over : MonoId = record { 0 = w } in
    let sum : c.in-Some.rest + c.args.by.amount ≡ (item c.args.p.now.list.now c.loop-id.id-index).0.0 = c.in-Some.ensures.sum in
    let room : c.args.by.amount + c.in-Some.rest % c.args.by.above < c.args.by.above = c.in-Some.ensures.fits in
    let quotient = c.in-Some-exact_quotient.quotient in
    let fits : FitsSigned w128 c.in-Some-exact_quotient.quotient = search rules in
    let right = item_fits c.args.p.now c.loop-id.id-index c.loop-id-test.true c.requires.parts.polynomial.norm_fits in
    let number : to_z w128 (of_z w128 c.args.number) *ℤ c.in-Some-exact_quotient.quotient ≡ (item c.args.p.now.list.now c.loop-id.id-index).1 =
    c.in-Some-exact_quotient.ensures.some ∙ to_z-of_z w128 (item c.args.p.now.list.now c.loop-id.id-index).1 right in
    let behind = map-append (term_of p.vars.now p.monos.now) list ((over, quotient) ∷ []) in
    record {
      so_far = rw (c.in_ok-push-in-Some-exact_quotient.ensures.items, to_z-of_z w128 c.in-Some-exact_quotient.quotient fits)
          (ap (multiples (divisor_powers p d, to_z w128 (of_z w128 c.args.number))) behind
          ∙ multiples_push (divisor_powers p d, to_z w128 (of_z w128 c.args.number)) (terms_of p.vars.now p.monos.now list) (told p) i
          (told_term p (item p.list.now i)) (told_powers p over, quotient) c.loop-id.invariant.so_far (told-within p i within) (told-is p i within)
          (over_product p d c.requires.parts c.requires.divisor id w index sum room) number);
      indices = rw c.in_ok-push-in-Some-exact_quotient.ensures.items
          (AllKeys-append (IsIndexOf p) list _ c.loop-id.invariant.indices (over_index p d c.requires.parts c.requires.divisor id w index sum room, tt));
      monomials = rw (c.in_ok-push-in-Some-exact_quotient.ensures.items, to_z-of_z w128 c.in-Some-exact_quotient.quotient fits)
          (subst (λ (q : Summands). AllKeys IsMonomial q) (sym behind)
          (AllKeys-append IsMonomial (terms_of p.vars.now p.monos.now list) ((told_powers p over, quotient) ∷ []) c.loop-id.invariant.monomials
          (over_monomial p d c.requires.parts c.requires.divisor id w index sum room, tt)));
    }
