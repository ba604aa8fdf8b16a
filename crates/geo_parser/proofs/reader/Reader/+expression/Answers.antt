use Rattle.std.proofs.Common.{◌≡◌, ℕ, Bool, IsTrue, List, [], ◌∷◌, None, ap, subst, sym, ◌∙◌}
use Rattle.std.specs.Prelude.{IfOk, option_map}
use Rattle.std.proofs.lemmas.Result.{IfOk-weaker}
use Rattle.geo_parser.specs.declared.cursor.Symbol.TheVariants.{Word}
use Rattle.geo_parser.specs.declared.expression_words.ExpressionWord.TheVariants.{PythagorasDifference, Ratio, SignedArea}
use Rattle.geo_parser.specs.Inner.Coming.{Coming}
use Rattle.geo_parser.specs.Forms.{Slot, close_slot, due_behind, expression_slot, expressions, open_slot}
use Rattle.geo_parser.specs.Inner.Reads.{ReadsFormed, Refuses}
use Rattle.geo_parser.specs.Inner.StatementWords.{expression_due}
use Rattle.geo_parser.proofs.ExpressionReading.{ReadsFormed-area, ReadsFormed-at, ReadsFormed-difference, ReadsFormed-ratio, ReadsNode-form, ReadsNode-parameter, Refuses-form, Refuses-parameter}
use Rattle.geo_parser.proofs.Reading.{Refuses-first, Refuses-then, answered, next_piece}
use Rattle.geo_parser.proofs.reader.Reader.+expression.Goals as goal

-- `{ e }`, of this level
abbrev a_part : ℕ → Bool → List Slot
a_part level ratios = open_slot level ∷ expression_slot level ratios ∷ close_slot ∷ []

pub formed-returns-in_ok-a-in-SignedArea-clause-ok : goal.formed-returns-in_ok-a-in-SignedArea-clause-ok
formed-returns-in_ok-a-in-SignedArea-clause-ok t c =
    ReadsFormed-at c.args.form SignedArea c.args.level c.args.ratios _ _ _ c.in-SignedArea.is
    (ReadsFormed-area c.args.level c.args.ratios _ _ c.requires.level _ _ _ c.in_ok-a-in-SignedArea.ensures.points)

pub formed-returns-in_ok-a-in-PythagorasDifference-clause-ok : goal.formed-returns-in_ok-a-in-PythagorasDifference-clause-ok
formed-returns-in_ok-a-in-PythagorasDifference-clause-ok t c =
    ReadsFormed-at c.args.form PythagorasDifference c.args.level c.args.ratios _ _ _ c.in-PythagorasDifference.is
    (ReadsFormed-difference c.args.level c.args.ratios _ _ c.requires.level _ _ _ c.in_ok-a-in-PythagorasDifference.ensures.points)

pub formed-returns-in_ok-a-in-Ratio-clause-ok : goal.formed-returns-in_ok-a-in-Ratio-clause-ok
formed-returns-in_ok-a-in-Ratio-clause-ok t c =
    let allowed : IsTrue c.args.ratios = c.requires.allowed c.in-Ratio.is in
    ReadsFormed-at c.args.form Ratio c.args.level c.args.ratios _ _ _ c.in-Ratio.is
    (ReadsFormed-ratio c.args.level c.args.ratios _ _ c.requires.level _ _ _ _ allowed c.in_ok-a-in-Ratio.ensures.points)

pub node-returns-else-not-may_stand-clause-refused : goal.node-returns-else-not-may_stand-clause-refused
node-returns-else-not-may_stand-clause-refused t c = λ f e.
    let s = c.args.self.now in
    let is = next_piece s.cursor.tokens c.peek.result c.in-Some-Word.field-0 (Word c.in-Some-Word.word) c.peek.ensures.lexeme c.in-Some-Word.is c.in-Some-Word.field-0-is in
    let due = c.in-Some.ensures.due c.args.level c.args.ratios in
    let P : Coming → Type 0 = λ k. Refuses (expression_due c.args.level c.args.ratios c.in-Some.form) (record s { cursor = k }) f in
    Refuses-form s c.args.level c.args.ratios c.in-Some-Word.word.now is c.in-Some.form (c.may_stand.ensures.0 c.if-not-may_stand.false) c.in-Some.ensures.text due f
    (subst P c.advance-in-Some.ensures (c.formed.ensures.refused f e))

pub node-returns-else-not-may_stand-clause-ok : goal.node-returns-else-not-may_stand-clause-ok
node-returns-else-not-may_stand-clause-ok t c =
    let s = c.args.self.now in
    let is = next_piece s.cursor.tokens c.peek.result c.in-Some-Word.field-0 (Word c.in-Some-Word.word) c.peek.ensures.lexeme c.in-Some-Word.is c.in-Some-Word.field-0-is in
    let due = c.in-Some.ensures.due c.args.level c.args.ratios in
    let P : Coming → Type 0 = λ k. IfOk c.formed.result (ReadsFormed c.in-Some.form c.args.level c.args.ratios (record s { cursor = k }) c.formed.new.self) in
    IfOk-weaker c.formed.result _ _
    (ReadsNode-form s c.args.level c.args.ratios c.in-Some-Word.word.now is c.in-Some.form
    (c.may_stand.ensures.0 c.if-not-may_stand.false) c.in-Some.ensures.text due c.formed.new.self)
    (subst P c.advance-in-Some.ensures c.formed.ensures.ok)

pub node-returns-in_err-name-in-None-clause-refused : goal.node-returns-in_err-name-in-None-clause-refused
node-returns-in_err-name-in-None-clause-refused t c = λ f e.
    let s = c.args.self.now in
    let is = next_piece s.cursor.tokens c.peek.result c.in-Some-Word.field-0 (Word c.in-Some-Word.word) c.peek.ensures.lexeme c.in-Some-Word.is c.in-Some-Word.field-0-is in
    let none : due_behind c.in-Some-Word.word.now (expressions c.args.level c.args.ratios) ≡ None =
    sym (c.of.ensures.due c.args.level c.args.ratios) ∙ ap (option_map (expression_due c.args.level c.args.ratios)) c.in-None.is in
    Refuses-parameter s c.args.level c.args.ratios c.in-Some-Word.word.now is none f (c.in_err-name-in-None.ensures.refused f (answered _ _ f c.from_residual.ensures.1 e))

pub node-returns-in_ok-name-in-None-clause-ok : goal.node-returns-in_ok-name-in-None-clause-ok
node-returns-in_ok-name-in-None-clause-ok t c =
    let s = c.args.self.now in
    let is = next_piece s.cursor.tokens c.peek.result c.in-Some-Word.field-0 (Word c.in-Some-Word.word) c.peek.ensures.lexeme c.in-Some-Word.is c.in-Some-Word.field-0-is in
    let none : due_behind c.in-Some-Word.word.now (expressions c.args.level c.args.ratios) ≡ None =
    sym (c.of.ensures.due c.args.level c.args.ratios) ∙ ap (option_map (expression_due c.args.level c.args.ratios)) c.in-None.is in
    ReadsNode-parameter s c.args.level c.args.ratios c.in-Some-Word.word.now is none _ _ c.requires.level c.in_ok-name-in-None.ensures.number

pub part-returns-in_err-open-clause-refused : goal.part-returns-in_err-open-clause-refused
part-returns-in_err-open-clause-refused t c = λ f e.
    Refuses-first (open_slot c.args.level ∷ []) (expression_slot c.args.level c.args.ratios ∷ close_slot ∷ []) _ f (c.in_err-open.ensures.refused f (answered _ _ f c.from_residual.ensures.1 e))

pub part-returns-in_err-term-clause-refused : goal.part-returns-in_err-term-clause-refused
part-returns-in_err-term-clause-refused t c = λ f e.
    Refuses-then (open_slot c.args.level ∷ []) (expression_slot c.args.level c.args.ratios ∷ close_slot ∷ []) _ _ _ c.in_ok-open.ensures.read f
    (Refuses-first (expression_slot c.args.level c.args.ratios ∷ []) (close_slot ∷ []) _ f (c.in_err-term.ensures.refused f (answered _ _ f c.from_residual-in_err-term.ensures.1 e)))

pub part-returns-in_err-close-clause-refused : goal.part-returns-in_err-close-clause-refused
part-returns-in_err-close-clause-refused t c = λ f e.
    Refuses-then (open_slot c.args.level ∷ []) (expression_slot c.args.level c.args.ratios ∷ close_slot ∷ []) _ _ _ c.in_ok-open.ensures.read f
    (Refuses-then (expression_slot c.args.level c.args.ratios ∷ []) (close_slot ∷ []) _ _ _ c.in_ok-term.ensures.ok.reads f
    (c.in_err-close.ensures.refused f (answered _ _ f c.from_residual-in_err-close.ensures.1 e)))

pub two_parts-returns-in_err-e-clause-refused : goal.two_parts-returns-in_err-e-clause-refused
two_parts-returns-in_err-e-clause-refused t c = λ f e.
    Refuses-first (a_part c.args.level c.args.first) (a_part c.args.level c.args.second) _ f (c.in_err-e.ensures.refused f (answered _ _ f c.from_residual.ensures.1 e))

pub two_parts-returns-in_err-f-clause-refused : goal.two_parts-returns-in_err-f-clause-refused
two_parts-returns-in_err-f-clause-refused t c = λ f e.
    Refuses-then (a_part c.args.level c.args.first) (a_part c.args.level c.args.second) _ _ _ c.in_ok-e.ensures.ok.reads f
    (c.in_err-f.ensures.refused f (answered _ _ f c.from_residual-in_err-f.ensures.1 e))
