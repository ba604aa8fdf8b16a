use Rattle.std.proofs.Common.{refl, ap}
use Rattle.geo_parser.specs.declared.statement_words.StatementWord.TheVariants.{Equal, Quadruple, Triple}
use Rattle.geo_parser.specs.Forms.{side}
use Rattle.geo_parser.proofs.FormReading.{ReadsStated-at, ReadsStated-made, Refuses-stated}
use Rattle.geo_parser.proofs.Reading.{Refuses-first, Refuses-then, answered}
use Rattle.geo_parser.proofs.reader.Reader.stated.Goals as goal

pub returns-in_err-e-in-Equal-clause-refused : goal.returns-in_err-e-in-Equal-clause-refused
returns-in_err-e-in-Equal-clause-refused c = λ f e.
    Refuses-stated c.args.word Equal _ f c.in-Equal.is
    (Refuses-first side side _ f (c.in_err-e-in-Equal.ensures.refused f (answered _ _ f c.from_residual.ensures.1 e)))

pub returns-in_err-f-in-Equal-clause-refused : goal.returns-in_err-f-in-Equal-clause-refused
returns-in_err-f-in-Equal-clause-refused c = λ f e.
    Refuses-stated c.args.word Equal _ f c.in-Equal.is
    (Refuses-then side side _ _ _ c.in_ok-e-in-Equal.ensures.ok.reads f (c.in_err-f-in-Equal.ensures.refused f (answered _ _ f c.from_residual-in_err-f-in-Equal.ensures.1 e)))

pub returns-in_ok-a-in-Triple-clause-ok : goal.returns-in_ok-a-in-Triple-clause-ok
returns-in_ok-a-in-Triple-clause-ok c =
    let nodes = c.three_points.new.self.terms in
    let made = c.on.ensures.form nodes in
    ReadsStated-at c.args.word (Triple c.in-Triple.word) _ _ _ c.in-Triple.is
    (ReadsStated-made (Triple c.in-Triple.word) _ _ _ _ c.in_ok-a-in-Triple.ensures.points refl (ap (λ f. f.word) made) (ap (λ f. f.arguments) made) (c.on.ensures.stored nodes))

pub returns-in_ok-a-in-Quadruple-clause-ok : goal.returns-in_ok-a-in-Quadruple-clause-ok
returns-in_ok-a-in-Quadruple-clause-ok c =
    let nodes = c.four_points.new.self.terms in
    let made = c.on-in-Quadruple.ensures.form nodes in
    ReadsStated-at c.args.word (Quadruple c.in-Quadruple.word) _ _ _ c.in-Quadruple.is
    (ReadsStated-made (Quadruple c.in-Quadruple.word) _ _ _ _ c.in_ok-a-in-Quadruple.ensures.points refl (ap (λ f. f.word) made) (ap (λ f. f.arguments) made) (c.on-in-Quadruple.ensures.stored nodes))
