use Rattle.std.proofs.Common.{[], ◌∷◌, Some, refl, subst}
use Rattle.geo_lexer.specs.Lexemes.{number_lexeme}
use Rattle.geo_parser.specs.declared.cursor.Symbol.TheVariants.{Number}
use Rattle.geo_parser.specs.Inner.Coming.{Coming}
use Rattle.geo_parser.specs.Forms.{second_number_slot, sketch_slot}
use Rattle.geo_parser.specs.Inner.Reads.{ReadsSecond, Refuses}
use Rattle.geo_parser.proofs.Reading.{Reads-behind, Refuses-behind, answered, next_piece}
use Rattle.geo_parser.proofs.reader.Reader.sketch.Goals as goal

pub returns-in_err-second_number-clause-refused : goal.returns-in_err-second_number-clause-refused
returns-in_err-second_number-clause-refused c = λ f e.
    let s = c.args.self.now in
    let is = next_piece s.cursor.tokens c.peek.result c.in-Some-Number.field-0 (Number c.in-Some-Number.field-0-0) c.peek.ensures.lexeme c.in-Some-Number.is c.in-Some-Number.field-0-is in
    let P : Coming → Type 0 = λ k. Refuses (second_number_slot ∷ []) (record s { cursor = k }) f in
    Refuses-behind (sketch_slot ∷ []) (second_number_slot ∷ []) s (number_lexeme c.in-Some-Number.field-0-0) is (λ begun rest. refl) f
    (subst P c.advance.ensures (c.in_err-second_number.ensures.refused f (answered _ _ f c.from_residual.ensures.1 e)))

pub returns-in_ok-second_number-clause-ok : goal.returns-in_ok-second_number-clause-ok
returns-in_ok-second_number-clause-ok c =
    let s = c.args.self.now in
    let is = next_piece s.cursor.tokens c.peek.result c.in-Some-Number.field-0 (Number c.in-Some-Number.field-0-0) c.peek.ensures.lexeme c.in-Some-Number.is c.in-Some-Number.field-0-is in
    let P : Coming → Type 0 = λ k. ReadsSecond (record s { cursor = k }) c.second_number.new.self in
    let second = subst P c.advance.ensures c.in_ok-second_number.ensures.ok in record {
      sketch = Some (c.in-Some-Number.field-0-0, second.number);
      reads = Reads-behind (sketch_slot ∷ []) (second_number_slot ∷ []) s (number_lexeme c.in-Some-Number.field-0-0) is (λ begun rest. refl) c.second_number.new.self _ second.reads;
    }
