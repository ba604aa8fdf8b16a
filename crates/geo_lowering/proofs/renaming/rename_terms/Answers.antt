use Rattle.std.proofs.Common.{◌≡◌, ℕ, ◌+◌, Some, [], ◌∷◌, ◌++◌, length, slice_get, sym, ◌∙◌, ap, subst}
use Rattle.std.proofs.lemmas.List.{length_push}
use Rattle.std.proofs.lemmas.Option.{slice_get_within}
use Rattle.geo_terms.specs.declared.nodes.Node.{Node}
use Rattle.geo_terms.specs.Stores.{HasChildrenBelow, node_tree, tree_of, trees_of}
use Rattle.geo_lowering.specs.Lowering.{Layout}
use Rattle.geo_lowering.specs.Parts.{layout_at}
use Rattle.geo_lowering.specs.Inner.Renaming.{AreRenamed, renamed_node}
use Rattle.geo_lowering.proofs.Renamed.{children, one_more}
use Rattle.geo_lowering.proofs.renaming.rename_terms.Goals as goal

pub intern-requires-clause-children : goal.intern-requires-clause-children
intern-requires-clause-children c =
    let l = c.loop-k in
    let places : Layout = layout_at c.args.places.now in
    let below : HasChildrenBelow l.k c.node.result = c.len-k-end.ensures.valid.children l.k c.node.result c.node.ensures in
    let made : c.node_at-node.result ≡ renamed_node places l.items.items c.node.result =
    c.node_at-node.ensures ∙ ap (λ items. renamed_node places items c.node.result) c.deref.ensures.value in
    subst (λ (node : Node). HasChildrenBelow (length l.steps.nodes) node) (sym made)
    (children places c.args.terms.now l.steps.nodes l.items.items l.invariant.1 c.node.result (subst (λ (k : ℕ). HasChildrenBelow k c.node.result) (sym l.invariant.0) below))

pub loop-k-preserved : goal.loop-k-preserved
loop-k-preserved c =
    let l = c.loop-k in
    let places : Layout = layout_at c.args.places.now in
    let id = c.in_ok-intern.field-0 in
    let more = c.intern.new.self.nodes in
    let count : length l.items.items ≡ l.k = l.invariant.0 in
    let at : slice_get c.args.terms.now (length l.items.items) ≡ Some c.node.result = subst (λ (k : ℕ). slice_get c.args.terms.now k ≡ Some c.node.result) (sym count) c.node.ensures in
    let below : HasChildrenBelow (length l.items.items) c.node.result = c.len-k-end.ensures.valid.children (length l.items.items) c.node.result at in
    let made : c.node_at-node.result ≡ renamed_node places l.items.items c.node.result =
    c.node_at-node.ensures ∙ ap (λ items. renamed_node places items c.node.result) c.deref.ensures.value in
    let tree : tree_of more id ≡ node_tree (trees_of l.steps.nodes) (renamed_node places l.items.items c.node.result) =
    c.in_ok-intern.ensures.tree ∙ ap (node_tree (trees_of l.steps.nodes)) made in
    let pushed : c.push.new.self.items ≡ l.items.items ++ id ∷ [] = c.in_ok-push.ensures.items in
    let renamed = one_more places c.args.terms.now l.steps.nodes l.items.items l.invariant.1 more c.node.result id c.len-k-end.ensures.valid at below
    c.in_ok-intern.ensures.longer (slice_get_within more id.0 c.node_at-node.result c.in_ok-intern.ensures.node) tree c.in_ok-intern.ensures.others in (
      ap length pushed ∙ length_push l.items.items id ∙ ap (λ (k : ℕ). k + 1) count,
      subst (λ items. AreRenamed places c.args.terms.now more items) (sym pushed) renamed,
      c.in_ok-intern.ensures.steps ∙ l.invariant.2,
      c.in_ok-intern.ensures.params ∙ l.invariant.3,
    )
