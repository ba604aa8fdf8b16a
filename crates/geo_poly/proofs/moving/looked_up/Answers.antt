use Rattle.std.proofs.Common.{ℤ, [], ◌∷◌, ◌++◌, take, sym, subst, ap, ap₂, ◌∙◌}
use Rattle.std.specs.Int.{w128}
use Rattle.std.specs.Prelude.{Contains}
use Rattle.std.proofs.lemmas.Int.{to_z-of_z}
use Rattle.std.proofs.lemmas.List.{map-append}
use Rattle.sparse_lists.specs.SparseLists.{AllKeys}
use Rattle.sparse_lists.proofs.Sums.{AllKeys-append, AllKeys-at}
use Rattle.geo_poly.specs.Monomials.{Powers}
use Rattle.geo_poly.specs.Polynomials.{Summands}
use Rattle.geo_poly.specs.Inner.Keyed.{HasRoom, IsIndexUnder, term_under, terms_under}
use Rattle.geo_poly.specs.Shared.{named, told, told_powers, told_term}
use Rattle.geo_poly.proofs.Entries.{item_fits}
use Rattle.geo_poly.proofs.InReach.{room_at}
use Rattle.geo_poly.proofs.KeysKept.{KeepsKeys-trans, indices_under-kept, terms_under-kept}
use Rattle.geo_poly.proofs.Moved.{AreMoved-kept, others-all}
use Rattle.geo_poly.proofs.Told.{index_at, item, monomial_at, told-is, told-take, told-within}
use Rattle.geo_poly.proofs.moving.looked_up.Goals as goal

pub index_in-requires-clause-index : goal.index_in-requires-clause-index
index_in-requires-clause-index g c = index_at c.args.p.now c.loop-id.id-index c.loop-id-test.true c.requires.parts

pub index_in-requires-clause-monomial : goal.index_in-requires-clause-monomial
index_in-requires-clause-monomial g c = monomial_at c.args.p.now c.loop-id.id-index c.loop-id-test.true c.requires.parts

pub index_in-requires-clause-known : goal.index_in-requires-clause-known
index_in-requires-clause-known g c =
    let p = c.args.p.now in
    let i = c.loop-id.id-index in
    AllKeys-at (λ (m : Powers). AllKeys (Contains c.args.vars.now) m) (told p) i (told_term p (item p.list.now i))
    (told-within p i c.loop-id-test.true) (told-is p i c.loop-id-test.true) c.requires.known

pub index_in-requires-clause-reach : goal.index_in-requires-clause-reach
index_in-requires-clause-reach g c =
    let p = c.args.p.now in
    let vars = c.args.vars.now in
    let keys = g.K.MonomialKeys.keys c.loop-id.keys in
    let i = c.loop-id.id-index in
    let m = told_powers p (item p.list.now i).0 in
    subst (HasRoom vars keys) (sym (others-all c.args.rows.now m c.requires.no_rows))
    (room_at vars (g.K.MonomialKeys.keys c.args.keys.now) keys (told p) i (told_term p (item p.list.now i))
    (told-within p i c.loop-id-test.true) (told-is p i c.loop-id-test.true) c.loop-id.invariant.kept.limits c.requires.reach)

pub loop-id-preserved : goal.loop-id-preserved
loop-id-preserved g c =
    let p = c.args.p.now in
    let vars = c.args.vars.now in
    let first = g.K.MonomialKeys.keys c.args.keys.now in
    let old = g.K.MonomialKeys.keys c.loop-id.keys in
    let new = g.K.MonomialKeys.keys c.index_in.new.keys in
    let i = c.loop-id.id-index in
    let list = c.loop-id.list.items in
    let kept = c.in_ok-new.ensures.kept in
    let fits = item_fits p i c.loop-id-test.true c.requires.parts.polynomial.norm_fits in
    record {
      kept = KeepsKeys-trans first old new c.loop-id.invariant.kept kept;
      table = AreMoved-kept p c.args.rows.now vars old new kept c.args.table.now c.loop-id.invariant.table;
      indices = rw c.in_ok-push.ensures.items
          (AllKeys-append (IsIndexUnder vars new) list _ (indices_under-kept vars old new list kept c.loop-id.invariant.indices)
          (c.in_ok-new.ensures.index, tt));
      terms = ap (terms_under vars new) c.in_ok-push.ensures.items
          ∙ map-append (term_under vars new) list _
          ∙ ap₂ (λ (ts : Summands) (z : ℤ). ts ++ (named vars (new.powers c.in_ok-new.new.0), z) ∷ [])
          (terms_under-kept vars old new list kept c.loop-id.invariant.indices ∙ c.loop-id.invariant.terms)
          (to_z-of_z w128 (item p.list.now i).1 fits)
          ∙ ap (λ (m : Powers). take i (told p) ++ (m, (item p.list.now i).1) ∷ [])
          (c.in_ok-new.ensures.powers ∙ others-all c.args.rows.now (told_powers p (item p.list.now i).0) c.requires.no_rows)
          ∙ sym (told-take p i c.loop-id-test.true);
    }
