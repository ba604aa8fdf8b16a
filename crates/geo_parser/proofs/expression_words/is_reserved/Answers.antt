use Rattle.std.proofs.Common.{◌≡◌, true, false, true≢false, is_some, ap, sym, ◌∙◌}
use Rattle.geo_parser.specs.Inner.CommandWords.{command_due}
use Rattle.geo_parser.specs.Forms.{due_behind, expressions, naming_commands, statements}
use Rattle.geo_parser.specs.Inner.StatementWords.{expression_due, statement_due}
use Rattle.geo_parser.proofs.Reserved.{is_reserved-others, is_some-map}
use Rattle.geo_parser.proofs.expression_words.is_reserved.Goals as goal
use Rattle.geo_parser.proofs.expression_words.is_reserved.Goals.{then-is_some, else-is_some, then-is_some-2, else-is_some-2}

pub returns-else-is_some-3 : goal.returns-else-is_some-3
returns-else-is_some-3 c =
    elim c.if-is_some-2.branch [
      | then-is_some-2 w ↦ absurd (true≢false (sym w.if-is_some-2.true ∙ sym w.value-is ∙ c.if-is_some-3.false))
      | else-is_some-2 w ↦
          let no_expression : is_some (due_behind c.args.word.now (expressions 0 true)) ≡ false =
          is_some-map (expression_due 0 true) _ _ _ w.is_some-else-is_some-2.ensures (w.of-else-is_some-2.ensures.due 0 true) ∙ sym w.value-is ∙ c.if-is_some-3.false in
          elim c.if-is_some.branch [
            | then-is_some v ↦ absurd (true≢false (sym v.if-is_some.true ∙ sym v.value-is ∙ w.if-is_some-2.false))
            | else-is_some v ↦
                let no_statement : is_some (due_behind c.args.word.now statements) ≡ false =
                is_some-map statement_due _ _ _ v.is_some-else-is_some.ensures v.of-else-is_some.ensures.due ∙ sym v.value-is ∙ w.if-is_some-2.false in
                let no_command : is_some (due_behind c.args.word.now naming_commands) ≡ false =
                is_some-map command_due _ _ _ c.is_some.ensures c.of.ensures.due ∙ v.if-is_some.false in
                c.is_some-else-is_some-3.ensures ∙ ap is_some c.find.ensures ∙ sym (is_reserved-others c.args.word.now no_command no_statement no_expression)
          ]
    ]
