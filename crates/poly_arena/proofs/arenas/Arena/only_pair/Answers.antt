use Rattle.std.proofs.Common.{◌≡◌, Some, None, List, [], length, slice_get, ◌∙◌, sym, ap, subst, arith}
use Rattle.std.specs.Prelude.{IfNone, IfSome}
use Rattle.std.proofs.lemmas.Option.{IfSome_then}
use Rattle.poly_arena.specs.declared.nodes.Node.{Node}
use Rattle.poly_arena.specs.declared.nodes.Slot.{Slot}
use Rattle.poly_arena.specs.declared.nodes.Slot.TheVariants.{Live}
use Rattle.poly_arena.specs.Chains.{IsLive, pairs_of}
use Rattle.poly_arena.specs.Nodes.{chains_of, node_at, pair_at}
use Rattle.poly_arena.specs.Inner.Changes.{IsLiveSlot}
use Rattle.poly_arena.proofs.Updating.{live_slot, lone, none_lone, none_weaker, not_lone, reads-start, reads-within}
use Rattle.poly_arena.proofs.arenas.Arena.only_pair.Goals as goal

pub first_of-requires : goal.first_of-requires
first_of-requires c =
    subst (λ slots. IsLiveSlot slots c.chain.inside.number) (sym c.deref.ensures.value)
    (live_slot c.self.inside.nodes.items c.self.inside.slots.items c.chain.inside.number
    (subst (λ a. IsLive a c.chain.inside.number) (sym c.self.view_is) (subst (IsLive c.args.self.now) (sym c.chain.view_is) c.requires.live)))

pub lone_pair-requires : goal.lone_pair-requires
lone_pair-requires c =
    let nodes = c.self.inside.nodes.items in
    let first = c.first_of.result in
    let at = subst (λ (slots : List Slot). slice_get slots c.chain.inside.number ≡ Some (Live first)) c.deref.ensures.value c.first_of.ensures in
    let read = reads-start nodes c.self.inside.slots.items c.self.inside.free.first c.self.inside.free.count c.chain.inside.number first at c.self.invariant in
    omega (arith, ap length c.deref-in-Some.ensures.value, reads-within nodes first first c.in-Some.i [] c.in-Some.is read)

pub returns-in-Some-clause-some : goal.returns-in-Some-clause-some
returns-in-Some-clause-some c =
    let nodes = c.self.inside.nodes.items in
    let slots = c.self.inside.slots.items in
    let free = c.self.inside.free in
    let n = c.chain.inside.number in
    let i = c.in-Some.i in
    let first = c.first_of.result in
    let at = subst (λ (slots : List Slot). slice_get slots n ≡ Some (Live first)) c.deref.ensures.value c.first_of.ensures in
    let seen = ap (λ k. pairs_of (chains_of nodes slots free.count) k) c.chain.view_is ∙ ap (λ a. pairs_of a c.args.chain.now) c.self.view_is in
    IfSome_then c.lone_pair.result
    (subst (λ (ns : List Node). IfSome c.lone_pair.result (λ pair. (pair ≡ pair_at ns i) × ((node_at ns i).next ≡ None))) c.deref-in-Some.ensures.value c.lone_pair.ensures.some)
    (λ pair h. sym seen ∙ lone nodes slots free.first free.count n first at c.self.invariant i pair c.in-Some.is h.0 h.1)

pub returns-in-Some-clause-none : goal.returns-in-Some-clause-none
returns-in-Some-clause-none c =
    let nodes = c.self.inside.nodes.items in
    let slots = c.self.inside.slots.items in
    let free = c.self.inside.free in
    let n = c.chain.inside.number in
    let i = c.in-Some.i in
    let first = c.first_of.result in
    let at = subst (λ (slots : List Slot). slice_get slots n ≡ Some (Live first)) c.deref.ensures.value c.first_of.ensures in
    let seen = ap (λ k. pairs_of (chains_of nodes slots free.count) k) c.chain.view_is ∙ ap (λ a. pairs_of a c.args.chain.now) c.self.view_is in
    none_weaker c.lone_pair.result _ _
    (λ more one. not_lone nodes slots free.first free.count n first at c.self.invariant i c.in-Some.is more (ap length seen ∙ one))
    (subst (λ (ns : List Node). IfNone c.lone_pair.result ((node_at ns i).next ≡ None → ⊥)) c.deref-in-Some.ensures.value c.lone_pair.ensures.none)

pub returns-in-None-clause-none : goal.returns-in-None-clause-none
returns-in-None-clause-none c one =
    let nodes = c.self.inside.nodes.items in
    let slots = c.self.inside.slots.items in
    let free = c.self.inside.free in
    let n = c.chain.inside.number in
    let first = c.first_of.result in
    let at = subst (λ (slots : List Slot). slice_get slots n ≡ Some (Live first)) c.deref.ensures.value c.first_of.ensures in
    let seen = ap (λ k. pairs_of (chains_of nodes slots free.count) k) c.chain.view_is ∙ ap (λ a. pairs_of a c.args.chain.now) c.self.view_is in
    none_lone nodes slots free.first free.count n first at c.self.invariant c.in-None.is (ap length seen ∙ one)
