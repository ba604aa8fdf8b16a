use Rattle.std.proofs.Common.{◌≡◌, ℤ, Some, List, length, slice_get, of_z, rules, sym, ap, subst, to_z, arith}
use Rattle.std.specs.Int.{w128}
use Rattle.std.proofs.lemmas.Int.{to_z-of_z}
use Rattle.poly_arena.specs.declared.nodes.Slot.{Slot}
use Rattle.poly_arena.specs.declared.nodes.Slot.TheVariants.{Live}
use Rattle.sparse_lists.specs.Coefficients.{Pairs, scaled}
use Rattle.poly_arena.specs.Chains.{CanScale, IsLive, Updates, pairs_of}
use Rattle.poly_arena.specs.Nodes.{chains_of, pairs, places}
use Rattle.poly_arena.specs.Inner.Changes.{IsLiveSlot}
use Rattle.poly_arena.proofs.Scaling.{IsArena-scaled, Updates-scaled, chain-once}
use Rattle.poly_arena.proofs.Seen.{seen_list}
use Rattle.poly_arena.proofs.Updating.{ap_length, live_slot, updates_as_seen}
use Rattle.poly_arena.proofs.arenas.Arena.scale.Goals as goal

pub first_of-first-requires : goal.first_of-first-requires
first_of-first-requires c =
    subst (λ slots. IsLiveSlot slots c.chain.inside.number) (sym c.deref.ensures.value)
    (live_slot c.self.inside.nodes.items c.self.inside.slots.items c.chain.inside.number
    (subst (λ a. IsLive a c.chain.inside.number) (sym c.self.view_is) (subst (IsLive c.args.self.now) (sym c.chain.view_is) c.requires.live)))

pub scale_chain-requires-clause-once : goal.scale_chain-requires-clause-once
scale_chain-requires-clause-once c =
    let first = c.first_of-first.result in
    let at = subst (λ (slots : List Slot). slice_get slots c.chain.inside.number ≡ Some (Live first)) c.deref.ensures.value c.first_of-first.ensures in
    chain-once c.self.inside.nodes.items c.self.inside.slots.items c.self.inside.free.first c.self.inside.free.count c.chain.inside.number first at
    c.self.invariant

pub scale_chain-requires-clause-fits : goal.scale_chain-requires-clause-fits
scale_chain-requires-clause-fits c =
    let nodes = c.self.inside.nodes.items in
    let slots = c.self.inside.slots.items in
    let n = c.chain.inside.number in
    let first = c.first_of-first.result in
    let at = subst (λ (slots : List Slot). slice_get slots n ≡ Some (Live first)) c.deref.ensures.value c.first_of-first.ensures in
    let same : to_z w128 (of_z w128 c.args.coef) ≡ c.args.coef = to_z-of_z w128 c.args.coef (search rules) in
    subst (λ (z : ℤ). CanScale c.args.key z (pairs nodes first)) (sym same)
    (subst (λ (ps : Pairs). CanScale c.args.key c.args.coef ps)
    (seen_list nodes slots c.self.inside.free.count n c.args.chain.now first c.args.self.now at c.self.view_is c.chain.view_is) c.requires.fits)

pub invariant_of-self : goal.invariant_of-self
invariant_of-self c =
    let n = c.chain.inside.number in
    let first = c.first_of-first.result in
    let at = subst (λ (slots : List Slot). slice_get slots n ≡ Some (Live first)) c.deref.ensures.value c.first_of-first.ensures in
    IsArena-scaled c.self.inside.nodes.items c.self.inside.slots.items c.self.inside.free.first c.self.inside.free.count n first at
    c.self.invariant c.scale_chain.new.nodes.items c.args.key (to_z w128 (of_z w128 c.args.coef)) c.scale_chain.ensures.nodes

pub returns-clause-count : goal.returns-clause-count
returns-clause-count c =
    let nodes = c.self.inside.nodes.items in
    let slots = c.self.inside.slots.items in
    let n = c.chain.inside.number in
    let first = c.first_of-first.result in
    let at = subst (λ (slots : List Slot). slice_get slots n ≡ Some (Live first)) c.deref.ensures.value c.first_of-first.ensures in
    let seen : pairs_of c.args.self.now c.args.chain.now ≡ pairs nodes first =
    seen_list nodes slots c.self.inside.free.count n c.args.chain.now first c.args.self.now at c.self.view_is c.chain.view_is in
    omega (arith, ap length seen, ap_length nodes (places nodes first), c.scale_chain.ensures.count)

pub returns-clause-updates : goal.returns-clause-updates
returns-clause-updates c =
    let nodes = c.self.inside.nodes.items in
    let slots = c.self.inside.slots.items in
    let count = c.self.inside.free.count in
    let n = c.chain.inside.number in
    let first = c.first_of-first.result in
    let at = subst (λ (slots : List Slot). slice_get slots n ≡ Some (Live first)) c.deref.ensures.value c.first_of-first.ensures in
    let z = to_z w128 (of_z w128 c.args.coef) in
    let same : z ≡ c.args.coef = to_z-of_z w128 c.args.coef (search rules) in
    let seen : pairs_of c.args.self.now c.args.chain.now ≡ pairs nodes first =
    seen_list nodes slots count n c.args.chain.now first c.args.self.now at c.self.view_is c.chain.view_is in
    let new = chains_of c.scale_chain.new.nodes.items slots count in
    subst (λ (x : ℤ). Updates c.args.self.now new c.args.chain.now (Some (scaled c.args.key x (pairs_of c.args.self.now c.args.chain.now)))) same
    (subst (λ (ps : Pairs). Updates c.args.self.now new c.args.chain.now (Some (scaled c.args.key z ps))) (sym seen)
    (updates_as_seen (chains_of nodes slots count) c.args.self.now new n c.args.chain.now (Some (scaled c.args.key z (pairs nodes first)))
    c.self.view_is c.chain.view_is
    (Updates-scaled nodes slots c.self.inside.free.first count n first at c.self.invariant c.scale_chain.new.nodes.items c.args.key z
    c.scale_chain.ensures.nodes count count)))
