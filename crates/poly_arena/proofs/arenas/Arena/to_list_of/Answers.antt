use Rattle.std.proofs.Common.{◌≡◌, Some, List, length, map, slice_get, ◌∙◌, refl, sym, ap, subst, rules, arith, to_z, of_z}
use Rattle.std.specs.Int.{w128}
use Rattle.std.proofs.Common.{FitsSigned}
use Rattle.std.proofs.lemmas.Int.{to_z-of_z}
use Rattle.poly_arena.specs.declared.nodes.Node.{Node}
use Rattle.poly_arena.specs.declared.nodes.Slot.{Slot}
use Rattle.poly_arena.specs.declared.nodes.Slot.TheVariants.{Live}
use Rattle.sparse_lists.specs.Coefficients.{Pairs}
use Rattle.poly_arena.specs.Chains.{IsLive, pairs_of}
use Rattle.poly_arena.specs.Nodes.{chains_of, places}
use Rattle.poly_arena.specs.Inner.Changes.{IsLiveSlot}
use Rattle.poly_arena.proofs.Updating.{ReadsBy, live_slot, pairs_at, reads_by-end, reads_by-smaller, reads_by-start, reads_by-turn, reads_by-within}
use Rattle.poly_arena.proofs.arenas.Arena.to_list_of.Goals as goal

pub first_of-place-requires : goal.first_of-place-requires
first_of-place-requires g c =
    subst (λ slots. IsLiveSlot slots c.chain.inside.number) (sym c.deref.ensures.value)
    (live_slot c.self.inside.nodes.items c.self.inside.slots.items c.chain.inside.number
    (subst (λ a. IsLive a c.chain.inside.number) (sym c.self.view_is) (subst (IsLive c.args.self.now) (sym c.chain.view_is) c.requires.live)))

pub loop-place-init : goal.loop-place-init
loop-place-init g c =
    let nodes = c.self.inside.nodes.items in
    let slots = c.self.inside.slots.items in
    let n = c.chain.inside.number in
    let first = c.first_of-place.result in
    let at = subst (λ (slots : List Slot). slice_get slots c.chain.inside.number ≡ Some (Live c.first_of-place.result)) c.deref.ensures.value c.first_of-place.ensures in
    record {
      nodes = refl;
      callable = c.requires.form;
      state =
          subst (ReadsBy (goal.F-post g c.args.form) nodes first first) (sym c.in_ok-list.ensures.items)
          (reads_by-start (goal.F-post g c.args.form) nodes slots c.self.inside.free.first c.self.inside.free.count n first at c.self.invariant);
      room =
          omega (
            arith,
            c.in_ok-list.ensures.len,
            c.in_ok-list.ensures.capacity,
            c.chain_length.ensures,
            ap (λ (ns : List Node). length (places ns c.first_of-place.result)) c.deref-2.ensures.value,
          );
    }

pub index-node-requires : goal.index-node-requires
index-node-requires g c =
    omega (
      arith,
      c.self.inside.nodes.ok.0,
      reads_by-within (goal.F-post g c.args.form) c.self.inside.nodes.items c.first_of-place.result c.loop-place.place c.in-Some.i
          c.loop-place.list.items c.in-Some.is c.loop-place.invariant.state,
    )

pub push_reserved-requires : goal.push_reserved-requires
push_reserved-requires g c =
    omega (
      arith,
      c.loop-place.invariant.room,
      reads_by-smaller (goal.F-post g c.args.form) c.self.inside.nodes.items c.first_of-place.result c.loop-place.place c.in-Some.i
          c.loop-place.list.items c.in-Some.is c.loop-place.invariant.state c.index-node.result.now c.index-node.ensures,
    )

pub loop-place-smaller : goal.loop-place-smaller
loop-place-smaller g c =
    reads_by-smaller (goal.F-post g c.args.form) c.self.inside.nodes.items c.first_of-place.result c.loop-place.place c.in-Some.i
    c.loop-place.list.items c.in-Some.is c.loop-place.invariant.state c.index-node.result.now c.index-node.ensures

pub loop-place-preserved : goal.loop-place-preserved
loop-place-preserved g c =
    let x = c.index-node.result.now in
    let fits : FitsSigned w128 x.coef = search rules in
    record {
      nodes = refl;
      callable = c.requires.form;
      state =
          subst (ReadsBy (goal.F-post g c.args.form) c.self.inside.nodes.items c.first_of-place.result x.next) (sym c.push_reserved.ensures.items)
          (reads_by-turn (goal.F-post g c.args.form) c.self.inside.nodes.items c.first_of-place.result c.loop-place.place c.in-Some.i
          c.loop-place.list.items c.in-Some.is c.loop-place.invariant.state x c.index-node.ensures
          (to_z w128 (of_z w128 x.coef)) c.form.result (to_z-of_z w128 x.coef fits) c.form.ensures);
      room = omega (
        arith,
        c.push_reserved.ensures.len,
        c.push_reserved.ensures.capacity,
        c.loop-place.invariant.room,
        reads_by-smaller (goal.F-post g c.args.form) c.self.inside.nodes.items c.first_of-place.result c.loop-place.place c.in-Some.i
            c.loop-place.list.items c.in-Some.is c.loop-place.invariant.state c.index-node.result.now c.index-node.ensures,
      );
    }

pub returns : goal.returns
returns g c = λ image all.
    let nodes = c.self.inside.nodes.items in
    let slots = c.self.inside.slots.items in
    let n = c.chain.inside.number in
    let first = c.first_of-place.result in
    let at = subst (λ (slots : List Slot). slice_get slots c.chain.inside.number ≡ Some (Live c.first_of-place.result)) c.deref.ensures.value c.first_of-place.ensures in
    reads_by-end (goal.F-post g c.args.form) nodes first c.loop-place.place c.loop-place.list.items c.in_default.is c.loop-place.invariant.state image all
    ∙ ap (λ (ps : Pairs). map image ps) (sym (pairs_at nodes slots c.self.inside.free.count n first at)
    ∙ ap (λ k. pairs_of (chains_of nodes slots c.self.inside.free.count) k) c.chain.view_is
    ∙ ap (λ a. pairs_of a c.args.chain.now) c.self.view_is)
