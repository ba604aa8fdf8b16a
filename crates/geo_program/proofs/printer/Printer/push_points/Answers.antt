use Rattle.std.proofs.Common.{◌++◌, [], ◌∷◌, map, take, sym, ap, ◌∙◌}
use Rattle.std.proofs.lemmas.List.{map_more}
use Rattle.geo_lexer.specs.Lexemes.{word_lexeme}
use Rattle.geo_program.specs.Expressions.{point_lexeme}
use Rattle.geo_program.proofs.Spacing.{◌⟫◌, Appends, appends_lexeme, appends_none, appends_same}
use Rattle.geo_program.proofs.printer.Printer.push_points.Goals as goal

pub loop-point-init : goal.loop-point-init
loop-point-init c = appends_none c.args.out.now.items

pub loop-point-preserved : goal.loop-point-preserved
loop-point-preserved c =
    let names = c.args.self.now.names in
    let before = map (point_lexeme names) (take c.loop-point.point-index c.args.points.now) in
    let one : Appends c.loop-point.out.items c.push_token.new.out.items (word_lexeme c.point.result.now ∷ []) = appends_lexeme _ _ (word_lexeme c.point.result.now) c.in_ok-push_token.ensures in
    appends_same _ (c.loop-point.invariant ⟫ one)
    (ap (λ text. before ++ word_lexeme text ∷ []) c.point.ensures
    ∙ sym (map_more (point_lexeme names) c.args.points.now c.loop-point.point-index (record { 0 = 0 }) c.loop-point-test.true))
