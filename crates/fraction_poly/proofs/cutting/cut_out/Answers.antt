use Rattle.std.proofs.Common.{◌≡◌, ℕ, ◌+◌, ◌-◌, ◌<◌, ◌≤◌, Some, drop, length, slice_get, sum_by, refl, sym, subst, arith}
use Rattle.std.proofs.lemmas.Option.{slice_get_read}
use Rattle.geo_terms.specs.declared.nodes.Node.{Node}
use Rattle.geo_terms.specs.Stores.{HasChildrenBelow}
use Rattle.geo_points.specs.declared.ids.TermId.{TermId}
use Rattle.fraction_poly.specs.Inner.Charges.{charge_below, own_charge_at}
use Rattle.fraction_poly.specs.Inner.Parts.{StandsFrom}
use Rattle.fraction_poly.proofs.Ranges.{range_sum-upto}
use Rattle.fraction_poly.proofs.Cuts.{IsInterned, cut-more, moved_below, part_placed}
use Rattle.fraction_poly.proofs.cutting.cut_out.Goals as goal

pub node-requires : goal.node-requires
node-requires c =
    let here : slice_get c.in_ok-order.order.items (c.loop-k.k - 1) ≡ Some c.index-old.result.now =
    slice_get_read c.in_ok-order.order.items (length c.in_ok-order.order.items) (c.loop-k.k - 1) c.index-old.result.now refl
    (omega (arith, c.loop-k.invariant.count, c.loop-k-test.true)) c.index-old.ensures in
    c.in_ok-order.ensures.stored (c.loop-k.k - 1) c.index-old.result.now here

pub moved-requires : goal.moved-requires
moved-requires c =
    let here : slice_get c.in_ok-order.order.items (c.loop-k.k - 1) ≡ Some c.index-old.result.now =
    slice_get_read c.in_ok-order.order.items (length c.in_ok-order.order.items) (c.loop-k.k - 1) c.index-old.result.now refl
    (omega (arith, c.loop-k.invariant.count, c.loop-k-test.true)) c.index-old.ensures in
    part_placed c.args.terms.now c.len.ensures.valid c.args.id c.in_ok-order.order.items c.in_ok-order.ensures c.loop-k.k (c.loop-k.k - 1)
    (omega (arith, c.loop-k-test.true)) c.index-old.result.now c.node.result here c.node.ensures c.loop-k.places c.loop-k.cut
    c.loop-k.invariant

pub intern-requires-clause-children : goal.intern-requires-clause-children
intern-requires-clause-children c =
    let here : slice_get c.in_ok-order.order.items (c.loop-k.k - 1) ≡ Some c.index-old.result.now =
    slice_get_read c.in_ok-order.order.items (length c.in_ok-order.order.items) (c.loop-k.k - 1) c.index-old.result.now refl
    (omega (arith, c.loop-k.invariant.count, c.loop-k-test.true)) c.index-old.ensures in
    subst (HasChildrenBelow (length c.loop-k.cut)) (sym c.moved.ensures)
    (moved_below c.args.terms.now c.len.ensures.valid c.args.id c.in_ok-order.order.items c.in_ok-order.ensures c.loop-k.k (c.loop-k.k - 1)
    (omega (arith, c.loop-k-test.true)) c.index-old.result.now c.node.result here c.node.ensures c.loop-k.places c.loop-k.cut
    c.loop-k.invariant)

pub loop-k-preserved : goal.loop-k-preserved
loop-k-preserved c =
    let here : slice_get c.in_ok-order.order.items (c.loop-k.k - 1) ≡ Some c.index-old.result.now =
    slice_get_read c.in_ok-order.order.items (length c.in_ok-order.order.items) (c.loop-k.k - 1) c.index-old.result.now refl
    (omega (arith, c.loop-k.invariant.count, c.loop-k-test.true)) c.index-old.ensures in
    let added = c.in_ok-place.ensures in
    let interned : IsInterned c.loop-k.cut c.intern.new.self c.moved.result c.in_ok-place.place = record {
      at = added.node;
      tree = added.tree;
      known = added.known;
      added = added.added;
      others = added.others;
      longer = added.longer;
      one_more = added.one_more;
      valid = added.valid;
    } in
    cut-more c.args.terms.now c.len.ensures.valid c.args.id c.in_ok-order.order.items c.in_ok-order.ensures c.loop-k.k (c.loop-k.k - 1)
    (omega (arith, c.loop-k-test.true)) c.index-old.result.now c.node.result here c.node.ensures c.loop-k.places c.loop-k.cut
    c.loop-k.invariant
    c.in_ok-place.place c.intern.new.self
    (subst (λ (n : Node). IsInterned c.loop-k.cut c.intern.new.self n c.in_ok-place.place) c.moved.ensures interned) c.insert.new.self
    c.in_ok-insert.ensures.updates

pub returns-clause-charges : goal.returns-clause-charges
returns-clause-charges c =
    let nodes = c.args.terms.now in
    let cut = c.loop-k.cut in
    let order = c.in_ok-order.order.items in
    let none : c.loop-k.k ≡ 0 = omega (arith, c.loop-k-test.false) in
    let placed = c.loop-k.invariant.placed c.args.id (subst (λ (k : ℕ). StandsFrom k order c.args.id) (sym none) c.in_ok-order.ensures.own) in
    let within = subst (λ (p : TermId). p.0 < length cut) (sym c.place-place.ensures) (c.loop-k.invariant.stands c.args.id placed) in
    let all = subst (λ (k : ℕ). charge_below cut (length cut) ≤ sum_by (λ (d : TermId). own_charge_at nodes d.0) (drop k order)) none c.loop-k.invariant.charges in
    let upto = range_sum-upto (own_charge_at cut) (c.place-place.result.0 + 1) (length cut) (omega (arith, within)) in
    omega (arith, upto, all, c.in_ok-order.ensures.charges)
