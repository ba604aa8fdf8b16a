use Rattle.std.proofs.Common.{ℕ, List, Option, ◌++◌, option_map, sym, ap, ◌∙◌}
use Rattle.std.specs.Borrow.{Bor}
use Rattle.std.proofs.lemmas.Result.{on_ok_weaker}
use Rattle.geo_lexer.specs.Lexemes.{word_lexeme}
use Rattle.geo_program.specs.CanonicalText.{condition_lexemes}
use Rattle.geo_program.specs.Inner.Printing.{spaced_text}
use Rattle.geo_program.proofs.Spacing.{appends_lexeme, appends_none}
use Rattle.geo_program.proofs.printer.push_condition.Goals as goal

-- the text with the word of the condition, if there is one
abbrev with_condition : List ℕ → Option (Bor (List ℕ)) → List ℕ
with_condition before condition = before ++ spaced_text (condition_lexemes (option_map (λ word. word.now) condition))

pub returns-in-Some : goal.returns-in-Some
returns-in-Some c =
    let before = c.args.out.now.items in
    on_ok_weaker c.push_token.result
    (λ h. (appends_lexeme _ _ (word_lexeme c.in-Some.word.now) h).is ∙ ap (with_condition before) (sym c.in-Some.is))
    c.push_token.ensures

pub returns-in-None : goal.returns-in-None
returns-in-None c = (appends_none c.args.out.now.items).is ∙ ap (with_condition c.args.out.now.items) (sym c.in-None.is)
