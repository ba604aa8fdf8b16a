use Rattle.std.proofs.Common.{◌≡◌, ℕ, List, IfSome, map, option_map, ap, sym, ◌∙◌, refl, subst}
use Rattle.std.specs.Prelude.{Option}
use Rattle.geo_parser.specs.Inner.StatementWords.{statement_due, statement_text}
use Rattle.geo_parser.specs.declared.statement_words.StatementWord.{StatementWord}
use Rattle.geo_parser.specs.declared.statement_words.TheConstants.{STATEMENTS}
use Rattle.geo_parser.proofs.Finding.{due_behind-dues, text_found}
use Rattle.geo_parser.proofs.statement_words.StatementWord.of.Goals as goal

abbrev table : List (List ℕ × StatementWord)
table = map (λ e. (e.0.now, e.1)) STATEMENTS

pub returns-clause-due : goal.returns-clause-due
returns-clause-due c = ap (option_map statement_due) c.find.ensures ∙ due_behind-dues statement_due table c.args.word.now

pub returns-clause-text : goal.returns-clause-text
returns-clause-text c =
    let P : Option StatementWord → Type 0 = λ r. IfSome r (λ w. statement_text w ≡ c.args.word.now) in
    subst P (sym c.find.ensures) (text_found statement_text table c.args.word.now refl)
