use Rattle.std.proofs.Common.{[], ◌∷◌}
use Rattle.geo_parser.specs.Forms.{close_slot, end_slot, open_slot, statement_slot}
use Rattle.geo_parser.proofs.FormReading.{ReadsStatement-made, Refuses-close, Refuses-end, Refuses-statement, Refuses-word}
use Rattle.geo_parser.proofs.Reading.{Refuses-first, answered}
use Rattle.geo_parser.proofs.reader.Reader.statement.Goals as goal

pub returns-in_err-open-clause-refused : goal.returns-in_err-open-clause-refused
returns-in_err-open-clause-refused c = λ f e.
    Refuses-first (open_slot 0 ∷ []) (statement_slot ∷ close_slot ∷ end_slot ∷ []) _ f (c.in_err-open.ensures.refused f (answered _ _ f c.from_residual.ensures.1 e))

pub returns-in_err-word-clause-refused : goal.returns-in_err-word-clause-refused
returns-in_err-word-clause-refused c = λ f e.
    Refuses-word _ _ f c.in_ok-open.ensures.read (c.in_err-word.ensures.refused f (answered _ _ f c.from_residual-in_err-word.ensures.1 e))

pub returns-in_err-statement-clause-refused : goal.returns-in_err-statement-clause-refused
returns-in_err-statement-clause-refused c = λ f e.
    let refused = c.in_err-statement.ensures.refused f (answered _ _ f c.from_residual-in_err-statement.ensures.1 e) in
    Refuses-word _ _ f c.in_ok-open.ensures.read (Refuses-statement c.in_ok-word.word _ _ c.in_ok-word.ensures.ok f refused)

pub returns-in_err-close-clause-refused : goal.returns-in_err-close-clause-refused
returns-in_err-close-clause-refused c = λ f e.
    let refused = c.in_err-close.ensures.refused f (answered _ _ f c.from_residual-in_err-close.ensures.1 e) in
    Refuses-close _ _ _ _ c.in_ok-word.word c.in_ok-statement.statement c.in_ok-open.ensures.read c.in_ok-word.ensures.ok c.in_ok-statement.ensures.ok f refused

pub returns-in_err-end-clause-refused : goal.returns-in_err-end-clause-refused
returns-in_err-end-clause-refused c = λ f e.
    let refused = c.in_err-end.ensures.refused f (answered _ _ f c.from_residual-in_err-end.ensures.1 e) in
    Refuses-end _ _ _ _ c.in_ok-word.word c.in_ok-statement.statement c.in_ok-open.ensures.read c.in_ok-word.ensures.ok c.in_ok-statement.ensures.ok _ c.in_ok-close.ensures.read f refused

pub returns-clause-ok : goal.returns-clause-ok
returns-clause-ok c =
    ReadsStatement-made _ _ _ _ c.in_ok-word.word c.in_ok-statement.statement c.in_ok-open.ensures.read c.in_ok-word.ensures.ok
    c.in_ok-statement.ensures.ok _ c.in_ok-close.ensures.read c.in_ok-end.ensures.ended.0 c.in_ok-end.ensures.ended.1
