use Rattle.std.proofs.Common.{◌≡◌, ◌+◌, true, false, sym, subst, arith}
use Rattle.std.specs.Prelude.{nat_le}
use Rattle.std.proofs.lemmas.Bool.Decides.{nat_tests}
use Rattle.geo_parser.specs.declared.cursor.Symbol.TheVariants.{Word}
use Rattle.geo_parser.specs.Inner.Coming.{Coming}
use Rattle.geo_parser.specs.Inner.Symbols.{IsWord, refusal_number}
use Rattle.geo_parser.specs.Inner.Reads.{ReadsNewName}
use Rattle.geo_parser.proofs.CommandReading.{ReadsNewName-token, Refuses-no_new_name, Refuses-points}
use Rattle.geo_parser.proofs.Reading.{Refuses-answer, next_piece, valid_piece}
use Rattle.geo_parser.proofs.Reserved.{not_reserved}
use Rattle.geo_parser.proofs.reader.Reader.new_name.Goals as goal

pub returns-in-Err-clause-refused : goal.returns-in-Err-clause-refused
returns-in-Err-clause-refused c = λ f e kind.
    let s = c.args.self.now in
    let is = next_piece s.cursor.tokens c.peek.result c.in-Some-Word.field-0 (Word c.in-Some-Word.word) c.peek.ensures.lexeme c.in-Some-Word.is c.in-Some-Word.field-0-is in
    Refuses-answer _ s _ f c.refuse-in-Err.result
    (Refuses-no_new_name s c.in-Some-Word.word.now is kind c.args.points (refusal_number c.in-Err.refusal) c.in-Err.ensures.refused)
    c.refuse-in-Err.ensures e

pub returns-then-self-points-gt-MOST_POINTS-clause-refused : goal.returns-then-self-points-gt-MOST_POINTS-clause-refused
returns-then-self-points-gt-MOST_POINTS-clause-refused c = λ f e kind.
    let s = c.args.self.now in
    let is = next_piece s.cursor.tokens c.peek.result c.in-Some-Word.field-0 (Word c.in-Some-Word.word) c.peek.ensures.lexeme c.in-Some-Word.is c.in-Some-Word.field-0-is in
    let many : nat_le (s.points + c.args.points) 512 ≡ false = grind (arith, nat_tests) in
    Refuses-answer _ s _ f c.refuse-then-self-points-gt-MOST_POINTS.result
    (Refuses-points s c.in-Some-Word.word.now is c.args.points c.in_default-check_new.ensures.new kind many) c.refuse-then-self-points-gt-MOST_POINTS.ensures e

pub returns-clause-ok : goal.returns-clause-ok
returns-clause-ok c =
    let s = c.args.self.now in
    let word = c.in-Some-Word.word.now in
    let is = next_piece s.cursor.tokens c.peek.result c.in-Some-Word.field-0 (Word c.in-Some-Word.word) c.peek.ensures.lexeme c.in-Some-Word.is c.in-Some-Word.field-0-is in
    let new = c.in_default-check_new.ensures.new in
    let few : nat_le (s.points + c.args.points) 512 ≡ true = grind (arith, nat_tests) in
    let valid : IsWord word = valid_piece c.peek.result c.in-Some-Word.field-0 (Word c.in-Some-Word.word) c.peek.ensures.valid c.in-Some-Word.is c.in-Some-Word.field-0-is in
    let P : Coming → Type 0 = λ k. ReadsNewName c.args.points s (record { cursor = k; names = s.names; terms = s.terms; points = s.points + c.args.points }) word in
    subst P (sym c.advance.ensures) (ReadsNewName-token s word is c.args.points new few c.if-self-points-gt-MOST_POINTS.false valid (not_reserved word new.free))
