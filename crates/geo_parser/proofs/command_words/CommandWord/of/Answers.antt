use Rattle.std.proofs.Common.{◌≡◌, None, IfSome, option_map, ap, sym, ◌∙◌, refl, subst}
use Rattle.std.specs.Prelude.{Option}
use Rattle.geo_parser.specs.Inner.CommandWords.{command_condition, command_due, command_text}
use Rattle.geo_parser.specs.declared.command_words.CommandWord.{CommandWord}
use Rattle.geo_parser.proofs.Finding.{due_behind-dues, text_found}
use Rattle.geo_parser.proofs.WordTables.{command_table, unnamed_condition}
use Rattle.geo_parser.proofs.command_words.CommandWord.of.Goals as goal

pub returns-clause-due : goal.returns-clause-due
returns-clause-due c = ap (option_map command_due) c.find.ensures ∙ due_behind-dues command_due command_table c.args.word.now

pub returns-clause-text : goal.returns-clause-text
returns-clause-text c =
    let P : Option CommandWord → Type 0 = λ r. IfSome r (λ w. command_text w ≡ c.args.word.now) in
    subst P (sym c.find.ensures) (text_found command_text command_table c.args.word.now refl)

pub returns-clause-condition : goal.returns-clause-condition
returns-clause-condition c =
    let P : Option CommandWord → Type 0 = λ r. IfSome r (λ w. command_condition w ≡ None) in
    subst P (sym c.find.ensures) (unnamed_condition c.args.word.now)
