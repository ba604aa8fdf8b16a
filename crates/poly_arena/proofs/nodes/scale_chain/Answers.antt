use Rattle.std.proofs.Common.{◌≡◌, ℤ, of_z, rules, subst, sym, to_z, arith}
use Rattle.std.specs.Int.{w128}
use Rattle.std.proofs.lemmas.Int.{to_z-of_z}
use Rattle.poly_arena.specs.Chains.{CanScale}
use Rattle.poly_arena.specs.Nodes.{pairs, places}
use Rattle.poly_arena.specs.Inner.Changes.{ScalesNodes}
use Rattle.poly_arena.proofs.Scaling.{scales-can, scales-end, scales-few, scales-start, scales-step, scales-within}
use Rattle.poly_arena.proofs.nodes.scale_chain.Goals as goal

pub loop-place-init : goal.loop-place-init
loop-place-init c = scales-start c.args.key _ c.args.nodes.now.items c.args.first c.requires.path

pub index_mut-node-requires : goal.index_mut-node-requires
index_mut-node-requires c =
    omega (
      arith,
      c.loop-place.nodes.ok.0,
      scales-within c.args.key _ c.args.nodes.now.items c.loop-place.nodes.items c.args.first c.loop-place.place c.loop-place.count
          c.in-Some.i c.in-Some.is c.requires.once c.loop-place.invariant,
    )

pub scale-requires-clause-key : goal.scale-requires-clause-key
scale-requires-clause-key c =
    let z = to_z w128 (of_z w128 c.args.coef) in
    let same : z ≡ c.args.coef = to_z-of_z w128 c.args.coef (search rules) in
    (scales-can c.args.key z c.args.nodes.now.items c.loop-place.nodes.items c.args.first c.loop-place.place c.loop-place.count
    c.in-Some.i c.in-Some.is c.requires.once c.loop-place.invariant c.index_mut-node.result.now c.index_mut-node.ensures.value
    (subst (λ (x : ℤ). CanScale c.args.key x (pairs c.args.nodes.now.items c.args.first)) (sym same) c.requires.fits)).0

pub scale-requires-clause-coef : goal.scale-requires-clause-coef
scale-requires-clause-coef c =
    let z = to_z w128 (of_z w128 c.args.coef) in
    let same : z ≡ c.args.coef = to_z-of_z w128 c.args.coef (search rules) in
    (scales-can c.args.key z c.args.nodes.now.items c.loop-place.nodes.items c.args.first c.loop-place.place c.loop-place.count
    c.in-Some.i c.in-Some.is c.requires.once c.loop-place.invariant c.index_mut-node.result.now c.index_mut-node.ensures.value
    (subst (λ (x : ℤ). CanScale c.args.key x (pairs c.args.nodes.now.items c.args.first)) (sym same) c.requires.fits)).1

pub overflow_add-count : goal.overflow_add-count
overflow_add-count c = omega (arith, c.requires.few, scales-few c.args.key _ c.loop-place.invariant)

pub loop-place-preserved : goal.loop-place-preserved
loop-place-preserved c =
    scales-step c.args.key (to_z w128 (of_z w128 c.args.coef)) c.args.nodes.now.items c.loop-place.nodes.items c.args.first
    c.loop-place.place c.loop-place.count c.in-Some.i c.in-Some.is c.requires.once c.loop-place.invariant c.index_mut-node.result.now
    c.index_mut-node.ensures.value c.scale.new.self c.scale.ensures

pub loop-place-smaller : goal.loop-place-smaller
loop-place-smaller c = omega (arith, scales-few c.args.key _ (loop-place-preserved c))

pub returns-clause-count : goal.returns-clause-count
returns-clause-count c =
    (scales-end c.args.key _ c.args.nodes.now.items c.loop-place.nodes.items c.args.first c.loop-place.place c.loop-place.count
    c.in_default.is c.loop-place.invariant).0

pub returns-clause-nodes : goal.returns-clause-nodes
returns-clause-nodes c =
    let z = to_z w128 (of_z w128 c.args.coef) in
    let same : z ≡ c.args.coef = to_z-of_z w128 c.args.coef (search rules) in
    let all : ScalesNodes c.args.nodes.now.items c.loop-place.nodes.items (places c.args.nodes.now.items c.args.first) c.args.key z =
    (scales-end c.args.key z c.args.nodes.now.items c.loop-place.nodes.items c.args.first c.loop-place.place c.loop-place.count
    c.in_default.is c.loop-place.invariant).1 in
    subst (λ (x : ℤ). ScalesNodes c.args.nodes.now.items c.loop-place.nodes.items (places c.args.nodes.now.items c.args.first) c.args.key x)
    same all
