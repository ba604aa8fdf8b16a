use Rattle.std.proofs.Common.{◌∷◌, ◌++◌, [], take, ap, sym, ◌∙◌}
use Rattle.std.proofs.lemmas.List.{take_more}
use Rattle.geo_program.specs.declared.names.Name.{Name}
use Rattle.geo_program.proofs.names.copied_names.Goals as goal

pub loop-name-preserved : goal.loop-name-preserved
loop-name-preserved c =
    let k = c.loop-name.name-index in
    let before = take k c.args.names.now in
    c.in_ok-push.ensures.items ∙ ap (λ items. items ++ c.in_ok-copy.field-0 ∷ []) c.loop-name.invariant
    ∙ ap (λ (name : Name). before ++ name ∷ []) (c.in_ok-copy.ensures ∙ c.name-item.is) ∙ sym (take_more c.args.names.now k c.name-item.result c.loop-name-test.true)
