use Rattle.std.proofs.Common.{◌≡◌, ℕ, List, IfSome, map, option_map, ap, sym, ◌∙◌, refl, subst}
use Rattle.std.specs.Prelude.{Option}
use Rattle.geo_parser.specs.Inner.StatementWords.{expression_due, expression_text}
use Rattle.geo_parser.specs.declared.expression_words.ExpressionWord.{ExpressionWord}
use Rattle.geo_parser.specs.declared.expression_words.TheConstants.{EXPRESSIONS}
use Rattle.geo_parser.proofs.Finding.{due_behind-dues, text_found}
use Rattle.geo_parser.proofs.expression_words.ExpressionWord.of.Goals as goal

abbrev table : List (List ℕ × ExpressionWord)
table = map (λ e. (e.0.now, e.1)) EXPRESSIONS

pub returns-clause-due : goal.returns-clause-due
returns-clause-due c = λ level ratios. ap (option_map (expression_due level ratios)) c.find.ensures ∙ due_behind-dues (expression_due level ratios) table c.args.word.now

pub returns-clause-text : goal.returns-clause-text
returns-clause-text c =
    let P : Option ExpressionWord → Type 0 = λ r. IfSome r (λ w. expression_text w ≡ c.args.word.now) in
    subst P (sym c.find.ensures) (text_found expression_text table c.args.word.now refl)
