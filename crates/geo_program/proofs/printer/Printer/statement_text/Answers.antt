use Rattle.std.proofs.Common.{ℕ, List, ◌++◌, [], ap, ◌∙◌}
use Rattle.std.specs.List.{flat_map}
use Rattle.geo_lexer.specs.Lexemes.{word_lexeme}
use Rattle.geo_program.specs.CanonicalText.{argument_lexemes}
use Rattle.geo_program.specs.Forms.{statement_form}
use Rattle.geo_program.proofs.Spacing.{appends, begins_line}
use Rattle.geo_program.proofs.printer.Printer.statement_text.Goals as goal

pub returns : goal.returns
returns c =
    let nodes = c.args.self.now.terms.now in
    let form = statement_form nodes c.args.statement in
    let spelling = flat_map (argument_lexemes c.args.self.now.names) form.arguments in
    begins_line [] _ _ (word_lexeme form.word) spelling (c.in_ok-extend_from_slice.ensures.items ∙ ap (λ (l : List ℕ). l ++ c.word.result.now) c.new-bytes.ensures.items ∙ c.word.ensures nodes)
    (appends _ _ spelling c.in_ok-push_statement_arguments.ensures)
