use Rattle.std.proofs.Common.{◌≡◌, ◌+◌, List, [], ◌∷◌, ◌++◌, map, length, sym, ◌∙◌, ap, rules}
use Rattle.geo_conditions.specs.declared.items.Item.{Item}
use Rattle.geo_conditions.specs.Lists.{ItemForm, goal_item, item_form}
use Rattle.geo_lowering.specs.declared.version.Version.TheVariants.{Two}
use Rattle.geo_program.specs.declared.commands.Command.{Command}
use Rattle.geo_program.specs.Programs.{source_of}
use Rattle.geo_discover.proofs.goal.goal_of.Goals as goal

pub returns-clause-item : goal.returns-clause-item
returns-clause-item c =
    let all : c.push.new.self.items ≡ c.in_ok-item.item ∷ [] =
    c.in_ok-push.ensures.items ∙ ap (λ (xs : List Item). xs ++ c.in_ok-item.item ∷ []) c.new-items.ensures.items in
    ap (λ (xs : List Item). map (item_form c.relation_item.new.terms.nodes) xs) all
    ∙ ap (λ (x : ItemForm). x ∷ [])
    (c.in_ok-item.ensures.item Two (source_of c.args.program.now) (sym c.requires.names) (sym c.requires.terms)
    (ap (λ (xs : List Command). length xs + 1) c.as_slice.ensures) c.requires.points)

pub returns-clause-bytes : goal.returns-clause-bytes
returns-clause-bytes c =
    let own : item_form c.relation_item.new.terms.nodes c.in_ok-item.item ≡ goal_item Two (source_of c.args.program.now) c.args.statement =
    c.in_ok-item.ensures.item Two (source_of c.args.program.now) (sym c.requires.names) (sym c.requires.terms)
    (ap (λ (xs : List Command). length xs + 1) c.as_slice.ensures) c.requires.points in
    let measured : c.len-bytes.result ≡ length c.in_ok-item.item.text = search rules in
    measured ∙ ap (λ (x : ItemForm). length x.text) own
