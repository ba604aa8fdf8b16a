use Rattle.std.proofs.Common.{◌∙◌, ap, ap₂, sym, ◌++◌, ◌∷◌, [], take, FitsSigned, rules}
use Rattle.std.specs.Int.{w128}
use Rattle.std.specs.Prelude.{Contains, ℤ}
use Rattle.std.proofs.lemmas.Int.{to_z-of_z}
use Rattle.std.proofs.lemmas.List.{map-append}
use Rattle.sparse_lists.specs.SparseLists.{AllKeys}
use Rattle.sparse_lists.proofs.Sums.{AllKeys-append, AllKeys-at}
use Rattle.mono_store.proofs.Interning.{Keeps_trans}
use Rattle.geo_poly.specs.Monomials.{IsMonomial, Powers}
use Rattle.geo_poly.specs.Polynomials.{Summands}
use Rattle.geo_poly.specs.Shared.{IsIndex, powers_at, term_of, terms_of}
use Rattle.geo_poly.proofs.Told.{indices-kept, take_more, terms_of-kept}
use Rattle.geo_poly.proofs.interning.stored_terms.Goals as goal

pub stored-requires-clause-monomial : goal.stored-requires-clause-monomial
stored-requires-clause-monomial c =
    rw c.powers.ensures (AllKeys-at IsMonomial c.args.terms.now c.loop-term.term-index c.term-item.result c.loop-term-test.true c.term-item.is c.requires.monomials)

pub stored-requires-clause-known : goal.stored-requires-clause-known
stored-requires-clause-known c =
    rw c.powers.ensures (AllKeys-at
    (λ (m : Powers). AllKeys (Contains c.args.vars.now) m) c.args.terms.now c.loop-term.term-index c.term-item.result
    c.loop-term-test.true c.term-item.is c.requires.known)

pub loop-term-preserved : goal.loop-term-preserved
loop-term-preserved c =
    let vars = c.args.vars.now in
    let old = c.loop-term.store in
    let new = c.stored.new.store in
    let list = c.loop-term.list.items in
    let t = c.term-item.result in
    let i = c.loop-term.term-index in
    let kept = c.in_ok-id.ensures.kept in
    let fits : FitsSigned w128 c.term-item.result.1 = search rules in
    record {
      kept = Keeps_trans c.loop-term.invariant.kept kept;
      indices = rw c.in_ok-push.ensures.items
          (AllKeys-append (IsIndex vars new) list _ (indices-kept vars old new list kept c.loop-term.invariant.indices) (c.in_ok-id.ensures.index, tt));
      terms = ap (terms_of vars new) c.in_ok-push.ensures.items
          ∙ map-append (term_of vars new) list _
          ∙ ap₂ (λ (ts : Summands) (z : ℤ). ts ++ (powers_at vars new c.in_ok-id.id, z) ∷ [])
          (terms_of-kept vars old new list kept c.loop-term.invariant.indices ∙ c.loop-term.invariant.terms) (to_z-of_z w128 t.1 fits)
          ∙ ap (λ (m : Powers). take i c.args.terms.now ++ (m, t.1) ∷ []) (c.in_ok-id.ensures.powers ∙ c.powers.ensures)
          ∙ sym (take_more c.args.terms.now i t c.loop-term-test.true c.term-item.is);
    }
