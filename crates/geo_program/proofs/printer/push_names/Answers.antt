use Rattle.std.proofs.Common.{◌++◌, [], ◌∷◌, map, take, sym, ap, ◌∙◌}
use Rattle.std.proofs.lemmas.List.{map_more}
use Rattle.geo_lexer.specs.Lexemes.{word_lexeme}
use Rattle.geo_program.specs.declared.names.Name.{Name}
use Rattle.geo_program.proofs.Spacing.{◌⟫◌, Appends, appends_lexeme, appends_none, appends_same}
use Rattle.geo_program.proofs.printer.push_names.Goals as goal

pub loop-name-init : goal.loop-name-init
loop-name-init c = appends_none c.args.out.now.items

pub loop-name-preserved : goal.loop-name-preserved
loop-name-preserved c =
    let spell = λ (name : Name). word_lexeme name.text in
    let before = map spell (take c.loop-name.name-index c.args.names.now) in
    let one : Appends c.loop-name.out.items c.push_token.new.out.items (word_lexeme c.bytes.result.now ∷ []) = appends_lexeme _ _ (word_lexeme c.bytes.result.now) c.in_ok-push_token.ensures in
    appends_same _ (c.loop-name.invariant ⟫ one)
    (ap (λ text. before ++ word_lexeme text ∷ []) c.bytes.ensures
    ∙ ap (λ (name : Name). before ++ spell name ∷ []) c.name-item.is
    ∙ sym (map_more spell c.args.names.now c.loop-name.name-index c.name-item.result c.loop-name-test.true))
