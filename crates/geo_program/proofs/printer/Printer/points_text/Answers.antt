use Rattle.std.proofs.Common.{ℕ, List, ◌++◌, [], map, ap, ◌∙◌}
use Rattle.std.specs.List.{flat_map}
use Rattle.geo_lexer.specs.Lexemes.{word_lexeme}
use Rattle.geo_program.specs.CanonicalText.{argument_lexemes}
use Rattle.geo_program.specs.Expressions.{point_lexeme}
use Rattle.geo_program.specs.Forms.{point_argument}
use Rattle.geo_program.proofs.Spacing.{appends, appends_same, begins_line, points_spelt}
use Rattle.geo_program.proofs.printer.Printer.points_text.Goals as goal

pub returns : goal.returns
returns c =
    let names = c.args.self.now.names in
    let spelling = flat_map (argument_lexemes names) (map point_argument c.args.points.now) in
    begins_line [] _ _ (word_lexeme c.args.word.now) spelling (c.in_ok-extend_from_slice.ensures.items ∙ ap (λ (l : List ℕ). l ++ c.args.word.now) c.new-bytes.ensures.items)
    (appends_same spelling (appends _ _ (map (point_lexeme names) c.args.points.now) c.in_ok-push_points.ensures) (points_spelt names c.args.points.now))
