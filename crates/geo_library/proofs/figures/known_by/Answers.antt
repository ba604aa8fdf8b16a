use Rattle.std.proofs.Common.{◌≡◌, ◌∙◌, ℕ, ap, Some, List, slice_get, subst}
use Rattle.geo_terms.specs.declared.nodes.Node.{Node}
use Rattle.geo_conditions.specs.declared.items.Item.{Item}
use Rattle.geo_terms.specs.Stores.{IsStore}
use Rattle.geo_library.specs.Inner.Knowing.{TellsText}
use Rattle.geo_library.proofs.KnownVariables.{known_here}
use Rattle.geo_library.proofs.figures.known_by.Goals as goal

pub returns-then-tells_quantity : goal.returns-then-tells_quantity
returns-then-tells_quantity c =
    let item = c.args.item.now in
    known_here c.args.steps.now.nodes (subst IsStore c.look.ensures c.len.ensures.valid) item c.node.result c.variable_of.result c.requires
    (subst (λ (k : ℕ). slice_get c.args.steps.now.nodes k ≡ Some c.node.result) (ap (λ (i : Item). i.term.0) c.item.view_is)
    (subst (λ (nodes : List Node). slice_get nodes c.item.inside.0.1.0.0 ≡ Some c.node.result) c.look-then-tells_quantity.ensures c.node.ensures)) c.variable_of.ensures
    (subst TellsText (c.deref.ensures.value ∙ ap (λ (i : Item). i.text) c.item.view_is) c.if-tells_quantity.ensures)
