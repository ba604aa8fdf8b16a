use Rattle.std.proofs.Common.{ℕ, List, ◌++◌, [], ◌∷◌, ap, ◌∙◌}
use Rattle.std.specs.List.{flat_map}
use Rattle.geo_lexer.specs.Lexemes.{word_lexeme}
use Rattle.geo_program.specs.CanonicalText.{argument_lexemes}
use Rattle.geo_program.specs.Forms.{line_argument}
use Rattle.geo_program.proofs.Spacing.{appends, begins_line}
use Rattle.geo_program.proofs.printer.Printer.lines_text.Goals as goal

pub returns : goal.returns
returns c =
    let spelling = flat_map (argument_lexemes c.args.self.now.names) (line_argument c.args.a ∷ line_argument c.args.b ∷ []) in
    begins_line [] _ _ (word_lexeme c.args.word.now) spelling
    (c.in_ok-extend_from_slice.ensures.items ∙ ap (λ (l : List ℕ). l ++ c.args.word.now) c.new-bytes.ensures.items)
    (appends _ _ spelling c.in_ok-push_lines.ensures)
