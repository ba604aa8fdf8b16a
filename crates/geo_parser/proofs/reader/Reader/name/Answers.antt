use Rattle.std.proofs.Common.{[], ◌∷◌, List, ℕ, sym, ap, refl, subst, arith, length, ◌<◌}
use Rattle.geo_lexer.specs.Lexemes.{word_lexeme}
use Rattle.geo_parser.specs.Inner.Coming.{Coming}
use Rattle.geo_parser.specs.declared.cursor.Symbol.TheVariants.{Word}
use Rattle.geo_parser.specs.Forms.{name_slot}
use Rattle.geo_parser.specs.Inner.Symbols.{refusal_number}
use Rattle.geo_parser.specs.Inner.Reads.{Reads, extent, reading}
use Rattle.geo_parser.proofs.Reading.{length-tail, Reads-token, Refuses-answer, Refuses-token, next_piece}
use Rattle.geo_parser.proofs.reader.Reader.name.Goals as goal

pub returns-in-Ok-clause-number : goal.returns-in-Ok-clause-number
returns-in-Ok-clause-number c =
    let s = c.args.self.now in
    let due = name_slot c.args.kind ∷ [] in
    let word = c.in-Some-Word.word.now in
    let is = next_piece s.cursor.tokens c.peek.result c.in-Some-Word.field-0 (Word c.in-Some-Word.word) c.peek.ensures.lexeme c.in-Some-Word.is c.in-Some-Word.field-0-is in
    let found = c.in-Ok.ensures.number in
    let read = Reads-token due s (word_lexeme word) is (λ begun rest. found.may_stand (reading s.names begun s.points) rest refl) in
    let P : Coming → Type 0 = λ k. Reads due s (record s { cursor = k }) (word_lexeme word ∷ []) in
    let Q : List ℕ → Type 0 = λ w. Reads due s (record s { cursor = c.advance.new.self }) (word_lexeme w ∷ []) in
    let shorter : extent (record s { cursor = c.advance.new.self }) < extent s =
    omega (arith, length-tail s.cursor.tokens (word_lexeme word) is, ap (λ k. length k.tokens) c.advance.ensures) in
    record { reads = subst Q (sym found.text) (subst P (sym c.advance.ensures) read); within = found.within; room = shorter }

pub returns-in-Err-clause-refused : goal.returns-in-Err-clause-refused
returns-in-Err-clause-refused c = λ f e.
    let s = c.args.self.now in
    let due = name_slot c.args.kind ∷ [] in
    let is = next_piece s.cursor.tokens c.peek.result c.in-Some-Word.field-0 (Word c.in-Some-Word.word) c.peek.ensures.lexeme c.in-Some-Word.is c.in-Some-Word.field-0-is in
    let refusal = refusal_number c.in-Err.refusal in
    let refused = Refuses-token due s (word_lexeme c.in-Some-Word.word.now) is refusal (λ begun rest. c.in-Err.ensures.refused.may_not (reading s.names begun s.points) rest refl) in
    Refuses-answer due s _ f c.refuse-in-Err.result refused c.refuse-in-Err.ensures e
