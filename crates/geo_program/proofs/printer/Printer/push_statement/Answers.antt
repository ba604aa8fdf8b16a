use Rattle.std.specs.List.{flat_map}
use Rattle.std.specs.Prelude.{codes}
use Rattle.std.proofs.lemmas.Result.{on_ok_weaker}
use Rattle.geo_lexer.specs.Lexemes.{close_brace, open_brace, word_lexeme}
use Rattle.geo_program.specs.CanonicalText.{argument_lexemes}
use Rattle.geo_program.specs.Forms.{statement_form}
use Rattle.geo_program.proofs.Spacing.{◌⟫◌, appends, appends_lexeme, appends_token, begins_line}
use Rattle.geo_program.proofs.printer.Printer.push_statement.Goals as goal

pub returns : goal.returns
returns c =
    let nodes = c.args.self.now.terms.now in
    let form = statement_form nodes c.args.statement in
    let opened = appends_lexeme _ _ open_brace c.in_ok-push_token.ensures in
    let word = appends_token _ _ _ form.word c.in_ok-push_token-2.ensures (c.word.ensures nodes) in
    let arguments = appends _ _ (flat_map (argument_lexemes c.args.self.now.names) form.arguments) c.in_ok-push_statement_arguments.ensures in
    on_ok_weaker c.push_token-3.result
    (λ last. begins_line _ _ _ (word_lexeme (codes "prove")) _ c.in_ok-extend_from_slice.ensures.items (opened ⟫ word ⟫ arguments ⟫ appends_lexeme _ _ close_brace last))
    c.push_token-3.ensures
