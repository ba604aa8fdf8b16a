use Rattle.std.proofs.Common.{ℕ, Bool, List, inl, inr, length, sym, subst, arith}
use Rattle.std.specs.Prelude.{Contains}
use Rattle.sparse_lists.specs.SparseLists.{AllKeys}
use Rattle.sparse_lists.proofs.Sums.{AllKeys-at}
use Rattle.mono_store.specs.declared.links.MonoId.{MonoId}
use Rattle.mono_store.specs.Stores.{monomial_of}
use Rattle.geo_poly.specs.Inner.Visits.{AreMarked, IsMarked}
use Rattle.geo_poly.specs.Monomials.{Powers}
use Rattle.geo_poly.specs.PolynomialVariables.{variables_of}
use Rattle.geo_poly.specs.Shared.{told, told_term}
use Rattle.geo_poly.proofs.ChainSteps.{same_or}
use Rattle.geo_poly.proofs.EachVariable.{all_variables}
use Rattle.geo_poly.proofs.MarkedVariables.{AreMarked-extends, all_marked, each_item}
use Rattle.geo_poly.proofs.Told.{index_at, item, told-is, told-within}
use Rattle.geo_poly.proofs.polynomial_variables.numbers_of_links.Goals as goal

pub mark_powers-requires-clause-index : goal.mark_powers-requires-clause-index
mark_powers-requires-clause-index c = index_at c.args.p.now c.loop-id.id-index c.loop-id-test.true c.requires

pub loop-id-preserved : goal.loop-id-preserved
loop-id-preserved c =
    let p = c.args.p.now in
    let i = c.loop-id.id-index in
    let known = c.loop-id.known.items in
    let known' = c.mark_powers.new.known.items in
    let occur = variables_of (told c.args.p.now) in
    let names = AllKeys-at (λ (m : Powers). AllKeys (Contains occur) m) (told p) i (told_term p (item p.list.now i))
    (told-within p i c.loop-id-test.true) (told-is p i c.loop-id-test.true) (all_variables (Contains occur) (told p) (λ v stands. stands)) in
    record {
      room = c.mark_powers.ensures.room;
      all = λ j below. elim (same_or j i) [
        | inl e ↦ subst (λ (k : ℕ). AreMarked known' (monomial_of p.monos.now (item p.list.now k).0)) (sym e) c.mark_powers.ensures.marked
        | inr d ↦
            AreMarked-extends known known' (monomial_of p.monos.now (item p.list.now j).0) c.mark_powers.ensures.kept
            (c.loop-id.invariant.all j (omega (arith, below, d)))
      ];
      only = c.mark_powers.ensures.only occur names c.loop-id.invariant.only;
      visited = c.mark_powers.ensures.visited;
      before = λ k below.
          c.mark_powers.ensures.kept k
          (subst (λ (bs : List Bool). IsMarked bs k) c.as_slice.ensures.value (c.first_unmarked-open.ensures k below));
    }

pub returns-then-open-len : goal.returns-then-open-len
returns-then-open-len c =
    let p = c.args.p.now in
    let known = c.loop-id.known.items in
    record {
      room = c.loop-id.invariant.room;
      all =
          each_item (λ (id : MonoId). AreMarked known (monomial_of p.monos.now id)) p.list.now
          (λ i within. all_marked (length p.vars.now) known (monomial_of p.monos.now (item p.list.now i).0) (index_at p i within c.requires).places
          (λ k below. subst (λ (bs : List Bool). IsMarked bs k) c.as_slice.ensures.value
          (c.first_unmarked-open.ensures k (omega (arith, below, c.loop-id.invariant.room, c.if-open-len.true)))));
      only = c.loop-id.invariant.only;
    }

pub returns : goal.returns
returns c =
    let p = c.args.p.now in
    let known = c.loop-id.known.items in
    record {
      room = c.loop-id.invariant.room;
      all =
          each_item (λ (id : MonoId). AreMarked known (monomial_of p.monos.now id)) p.list.now
          (λ i within. c.loop-id.invariant.all i (omega (arith, within, c.loop-id-test.false)));
      only = c.loop-id.invariant.only;
    }
