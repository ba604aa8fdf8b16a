use Rattle.std.proofs.Common.{[], ◌∷◌}
use Rattle.geo_parser.specs.Forms.{a_point}
use Rattle.geo_parser.proofs.Reading.{Refuses-first, Refuses-then, answered}
use Rattle.geo_parser.proofs.reader.Reader.three_points.Goals as goal

pub returns-in_err-a-clause-refused : goal.returns-in_err-a-clause-refused
returns-in_err-a-clause-refused c = λ f e.
    Refuses-first (a_point ∷ []) (a_point ∷ a_point ∷ []) _ f (c.in_err-a.ensures.refused f (answered _ _ f c.from_residual.ensures.1 e))

pub returns-in_err-b-clause-refused : goal.returns-in_err-b-clause-refused
returns-in_err-b-clause-refused c = λ f e.
    Refuses-then (a_point ∷ []) (a_point ∷ a_point ∷ []) _ _ _ c.in_ok-a.ensures.point.reads f (c.in_err-b.ensures.refused f (answered _ _ f c.from_residual-in_err-b.ensures.1 e))
