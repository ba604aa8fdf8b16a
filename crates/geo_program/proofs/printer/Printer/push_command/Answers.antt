use Rattle.std.proofs.Common.{◌++◌, map, sym, ap, ◌∙◌}
use Rattle.std.specs.List.{flat_map}
use Rattle.std.proofs.lemmas.Result.{on_ok_weaker}
use Rattle.geo_lexer.specs.Lexemes.{word_lexeme}
use Rattle.geo_program.specs.declared.names.Name.{Name}
use Rattle.geo_program.specs.CanonicalText.{argument_lexemes, condition_lexemes}
use Rattle.geo_program.specs.Forms.{command_form}
use Rattle.geo_program.proofs.Spacing.{◌⟫◌, appends, begins_line}
use Rattle.geo_program.proofs.printer.Printer.push_command.Goals as goal

pub returns : goal.returns
returns c =
    let nodes = c.args.self.now.terms.now in
    let form = command_form nodes c.args.command in
    let word = c.in_ok-extend_from_slice.ensures.items ∙ ap (λ text. c.args.out.now.items ++ text) (c.word.ensures nodes) in
    let condition = appends _ _ (condition_lexemes form.condition) (rw (c.condition.ensures nodes) at c.in_ok-push_condition.ensures) in
    let names = appends _ _ (map (λ (name : Name). word_lexeme name.text) c.args.own.now) c.in_ok-push_names.ensures in
    on_ok_weaker c.push_arguments.result
    (λ rest. begins_line _ _ _ (word_lexeme form.word) _ word (condition ⟫ (names ⟫ appends _ _ (flat_map (argument_lexemes c.args.self.now.names) form.arguments) rest)))
    c.push_arguments.ensures
