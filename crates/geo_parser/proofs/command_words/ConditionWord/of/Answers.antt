use Rattle.std.proofs.Common.{◌≡◌, ℕ, List, IfSome, map, option_map, ap, sym, ◌∙◌, refl, subst}
use Rattle.std.specs.Prelude.{Option}
use Rattle.geo_parser.specs.Inner.CommandWords.{condition_slots, condition_text}
use Rattle.geo_parser.specs.declared.command_words.ConditionWord.{ConditionWord}
use Rattle.geo_parser.specs.declared.command_words.TheConstants.{CONDITIONS}
use Rattle.geo_parser.proofs.Finding.{due_behind-dues, text_found}
use Rattle.geo_parser.proofs.command_words.ConditionWord.of.Goals as goal

abbrev table : List (List ℕ × ConditionWord)
table = map (λ e. (e.0.now, e.1)) CONDITIONS

pub returns-clause-due : goal.returns-clause-due
returns-clause-due c = ap (option_map condition_slots) c.find.ensures ∙ due_behind-dues condition_slots table c.args.word.now

pub returns-clause-text : goal.returns-clause-text
returns-clause-text c =
    let P : Option ConditionWord → Type 0 = λ r. IfSome r (λ w. condition_text w ≡ c.args.word.now) in
    subst P (sym c.find.ensures) (text_found condition_text table c.args.word.now refl)
