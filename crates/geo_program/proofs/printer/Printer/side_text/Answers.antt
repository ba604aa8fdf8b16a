use Rattle.std.proofs.Common.{ℕ, List, ◌++◌, [], sym, ap, ◌∙◌}
use Rattle.std.proofs.lemmas.List.{append-nil}
use Rattle.geo_lexer.specs.Lexemes.{word_lexeme}
use Rattle.geo_program.specs.Expressions.{braced, expression_lexemes}
use Rattle.geo_program.proofs.Spacing.{appends, appends_same, begins_line}
use Rattle.geo_program.proofs.printer.Printer.side_text.Goals as goal
use Rattle.geo_terms.specs.Stores.{tree_of}

pub returns : goal.returns
returns c =
    let e = braced (expression_lexemes c.args.self.now.names (tree_of c.args.self.now.terms.now c.args.e)) in
    begins_line [] _ _ (word_lexeme c.args.word.now) (e ++ []) (c.in_ok-extend_from_slice.ensures.items ∙ ap (λ (l : List ℕ). l ++ c.args.word.now) c.new-bytes.ensures.items)
    (appends_same (e ++ []) (appends _ _ e c.in_ok-push_braced.ensures) (sym (append-nil e)))
