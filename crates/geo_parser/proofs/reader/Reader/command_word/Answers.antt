use Rattle.std.proofs.Common.{◌≡◌, false, None, [], ◌∷◌, codes, ap, sym, ◌∙◌, subst}
use Rattle.std.specs.Prelude.{option_map}
use Rattle.std.specs.Str.{bytes_eq}
use Rattle.geo_parser.specs.declared.cursor.Symbol.TheVariants.{Word}
use Rattle.geo_parser.specs.Inner.Coming.{Coming}
use Rattle.geo_parser.specs.Inner.CommandWords.{command_due}
use Rattle.geo_parser.specs.Inner.Reads.{Refuses}
use Rattle.geo_parser.specs.Forms.{command_slot, condition_slot, due_behind, naming_commands}
use Rattle.geo_parser.specs.Texts.{is_text}
use Rattle.geo_parser.proofs.CommandReading.{Refuses-condition, Refuses-no_command}
use Rattle.geo_parser.proofs.Finding.{is_text_lem, same_text}
use Rattle.geo_parser.proofs.Reading.{Refuses-answer, answered, next_piece}
use Rattle.geo_parser.proofs.reader.Reader.command_word.Goals as goal

pub returns-in_err-condition_word-clause-refused : goal.returns-in_err-condition_word-clause-refused
returns-in_err-condition_word-clause-refused c = λ f e.
    let s = c.args.self.now in
    let word = c.in-Some-Word.word.now in
    let is = next_piece s.cursor.tokens c.peek.result c.in-Some-Word.field-0 (Word c.in-Some-Word.word) c.peek.ensures.lexeme c.in-Some-Word.is c.in-Some-Word.field-0-is in
    let same : word ≡ codes "assume" =
    same_text word (codes "assume") (is_text_lem word (codes "assume") ∙ ap (bytes_eq word) (sym c.as_slice-2.ensures) ∙ sym c.eq-2.ensures ∙ c.if-eq-2.true) in
    let P : Coming → Type 0 = λ k. Refuses (condition_slot ∷ []) (record s { cursor = k }) f in
    Refuses-condition s word is same f
    (subst P c.advance-then-eq-2.ensures (c.in_err-condition_word.ensures.refused f (answered _ _ f c.from_residual.ensures.1 e)))

pub returns-in-None-of-clause-refused : goal.returns-in-None-of-clause-refused
returns-in-None-of-clause-refused c = λ f e.
    let s = c.args.self.now in
    let word = c.in-Some-Word.word.now in
    let is = next_piece s.cursor.tokens c.peek.result c.in-Some-Word.field-0 (Word c.in-Some-Word.word) c.peek.ensures.lexeme c.in-Some-Word.is c.in-Some-Word.field-0-is in
    let no_prove : is_text word (codes "prove") ≡ false =
    is_text_lem word (codes "prove") ∙ ap (bytes_eq word) (sym c.as_slice.ensures) ∙ sym c.eq.ensures ∙ c.if-eq.false in
    let no_assume : is_text word (codes "assume") ≡ false =
    is_text_lem word (codes "assume") ∙ ap (bytes_eq word) (sym c.as_slice-2.ensures) ∙ sym c.eq-2.ensures ∙ c.if-eq-2.false in
    let none : None ≡ due_behind word naming_commands = ap (option_map command_due) (sym c.in-None-of.is) ∙ c.of.ensures.due in
    (Refuses-answer (command_slot ∷ []) s _ f c.refuse-in-None-of.result (Refuses-no_command s word is no_prove no_assume none) c.refuse-in-None-of.ensures e).first [] []
