use Rattle.std.proofs.Common.{◌≡◌, ◌^◌, ◌<◌, ℤ, unsigned_abs, ◌*ℤ◌, [], ◌∷◌, FitsSigned, to_z, of_z, sym, ap, subst, ◌∙◌, rules}
use Rattle.std.specs.Int.{w128}
use Rattle.std.proofs.lemmas.Int.{to_z-of_z}
use Rattle.std.proofs.lemmas.List.{map-append}
use Rattle.sparse_lists.specs.SparseLists.{AllKeys}
use Rattle.sparse_lists.proofs.Canonical.{canonical_self}
use Rattle.sparse_lists.proofs.Sums.{AllKeys-append}
use Rattle.geo_poly.specs.Monomials.{Powers, IsMonomial, exponents, product}
use Rattle.geo_poly.specs.Polynomials.{Summands, multiples}
use Rattle.geo_poly.specs.Shared.{IsIndexOf, term_of, terms_of, told, told_powers, told_term}
use Rattle.geo_poly.specs.Variables.{var_cmp}
use Rattle.geo_poly.proofs.Entries.{item_fits, item_small}
use Rattle.geo_poly.proofs.ExactQuotient.{multiple_at, multiples_push}
use Rattle.geo_poly.proofs.Orders.{exponents_add, var_order}
use Rattle.geo_poly.proofs.Told.{index_at, item, monomial_at, told-is, told-within}
use Rattle.geo_poly.proofs.division.number_quotients.Goals as goal

product_none : (m : Powers) → IsMonomial m → product [] m ≡ m
product_none m h = canonical_self var_cmp exponents var_order exponents_add m h.in_order

pub exact_quotient-requires-clause-fits : goal.exact_quotient-requires-clause-fits
exact_quotient-requires-clause-fits c =
    let p = c.args.p.now in
    let i = c.loop-id.id-index in
    let fits = c.requires.parts.polynomial.norm_fits in
    subst (λ (z : ℤ). unsigned_abs z < 2 ^ 127)
    (sym (to_z-of_z w128 (item p.list.now i).1 (item_fits p i c.loop-id-test.true c.requires.parts.polynomial.norm_fits)))
    (item_small p i c.loop-id-test.true c.requires.parts.polynomial.norm_fits)

pub returns-in-None-clause-none : goal.returns-in-None-clause-none
returns-in-None-clause-none c = λ q e.
    let p = c.args.p.now in
    let i = c.loop-id.id-index in
    let left : FitsSigned w128 c.args.number = search rules in
    let right = item_fits c.args.p.now c.loop-id.id-index c.loop-id-test.true c.requires.parts.polynomial.norm_fits in
    multiple_at ([], c.args.number) q (told p) i (told_term p (item p.list.now i)) e (told-within p i c.loop-id-test.true) (told-is p i c.loop-id-test.true)
    (λ u same. c.in-None.ensures.none u.1
    (ap (λ d. d *ℤ u.1) (to_z-of_z w128 c.args.number left) ∙ sym (ap (λ (x : Powers × ℤ). x.1) same) ∙ sym (to_z-of_z w128 (item p.list.now i).1 right)))

pub loop-id-preserved : goal.loop-id-preserved
loop-id-preserved c =
    let p = c.args.p.now in
    let i = c.loop-id.id-index in
    let list = c.loop-id.list.items in
    let within = c.loop-id-test.true in
    let id = (item p.list.now i).0 in
    let quotient = c.in-Some.quotient in
    let fits : FitsSigned w128 c.in-Some.quotient = search rules in
    let right = item_fits c.args.p.now c.loop-id.id-index c.loop-id-test.true c.requires.parts.polynomial.norm_fits in
    let number : to_z w128 (of_z w128 c.args.number)
    *ℤ c.in-Some.quotient ≡ (item c.args.p.now.list.now c.loop-id.id-index).1 =
    c.in-Some.ensures.some ∙ to_z-of_z w128 (item c.args.p.now.list.now c.loop-id.id-index).1 right in
    let one = monomial_at c.args.p.now c.loop-id.id-index c.loop-id-test.true c.requires.parts in
    let behind = map-append (term_of p.vars.now p.monos.now) list ((id, quotient) ∷ []) in
    record {
      so_far = rw (c.in_ok-push-in-Some.ensures.items, to_z-of_z w128 c.in-Some.quotient fits)
          (ap (multiples ([], to_z w128 (of_z w128 c.args.number))) behind
          ∙ multiples_push ([], to_z w128 (of_z w128 c.args.number)) (terms_of p.vars.now p.monos.now list) (told p) i (told_term p (item p.list.now i)) (told_powers p id, quotient)
          c.loop-id.invariant.so_far (told-within p i within) (told-is p i within) (product_none (told_powers p id) one) number);
      indices = rw c.in_ok-push-in-Some.ensures.items (AllKeys-append (IsIndexOf p) list _ c.loop-id.invariant.indices (index_at p i within c.requires.parts, tt));
      monomials = rw (c.in_ok-push-in-Some.ensures.items, to_z-of_z w128 c.in-Some.quotient fits)
          (subst (λ (q : Summands). AllKeys IsMonomial q) (sym behind)
          (AllKeys-append IsMonomial (terms_of p.vars.now p.monos.now list)
          ((told_powers p id, quotient) ∷ []) c.loop-id.invariant.monomials (one, tt)));
    }
