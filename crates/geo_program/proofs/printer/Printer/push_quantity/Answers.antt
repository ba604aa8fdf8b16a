use Rattle.std.proofs.Common.{map}
use Rattle.std.proofs.lemmas.Result.{on_ok_weaker}
use Rattle.geo_lexer.specs.Lexemes.{word_lexeme}
use Rattle.geo_program.specs.Expressions.{point_lexeme}
use Rattle.geo_program.proofs.Spacing.{◌⟫◌, appends, appends_lexeme}
use Rattle.geo_program.proofs.printer.Printer.push_quantity.Goals as goal

pub returns : goal.returns
returns c =
    let first = appends_lexeme _ _ (word_lexeme c.args.word.now) c.in_ok-push_token.ensures in
    on_ok_weaker c.push_points.result
    (λ last. (first ⟫ appends _ _ (map (point_lexeme c.args.self.now.names) c.args.points.now) last).is)
    c.push_points.ensures
