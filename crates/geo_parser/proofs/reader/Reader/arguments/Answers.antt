use Rattle.std.proofs.Common.{[], ◌∷◌, refl}
use Rattle.geo_program.specs.Forms.{line_argument, number_argument, point_argument}
use Rattle.geo_terms.specs.Stores.{tree_of}
use Rattle.geo_parser.specs.declared.command_words.CommandWord.TheVariants.{Direction, Intersec, Pair, Pratio, Step, Triple}
use Rattle.geo_parser.specs.Forms.{a_line, a_number, a_point}
use Rattle.geo_parser.proofs.FormReading.{ReadsArguments-number, ReadsForm-at, ReadsForm-made, Refuses-at}
use Rattle.geo_parser.proofs.Reading.{ReadsArguments-then, Refuses-first, Refuses-then, answered}
use Rattle.geo_parser.proofs.reader.Reader.arguments.Goals as goal

pub returns-in_err-p-in-Direction-clause-refused : goal.returns-in_err-p-in-Direction-clause-refused
returns-in_err-p-in-Direction-clause-refused c = λ f e.
    Refuses-at c.args.word (Direction c.in-Direction.word) _ f c.in-Direction.is
    (Refuses-first (a_point ∷ []) (a_line ∷ []) _ f (c.in_err-p-in-Direction.ensures.refused f (answered _ _ f c.from_residual-in_err-p-in-Direction.ensures.1 e)))

pub returns-in_err-b-in-Direction-clause-refused : goal.returns-in_err-b-in-Direction-clause-refused
returns-in_err-b-in-Direction-clause-refused c = λ f e.
    Refuses-at c.args.word (Direction c.in-Direction.word) _ f c.in-Direction.is
    (Refuses-then (a_point ∷ []) (a_line ∷ []) _ _ _ c.in_ok-p-in-Direction.ensures.point.reads f
    (c.in_err-b-in-Direction.ensures.refused f (answered _ _ f c.from_residual-in_err-b-in-Direction.ensures.1 e)))

pub returns-in_err-a-in-Intersec-clause-refused : goal.returns-in_err-a-in-Intersec-clause-refused
returns-in_err-a-in-Intersec-clause-refused c = λ f e.
    Refuses-at c.args.word Intersec _ f c.in-Intersec.is
    (Refuses-first (a_line ∷ []) (a_line ∷ []) _ f (c.in_err-a-in-Intersec.ensures.refused f (answered _ _ f c.from_residual-in_err-a-in-Intersec.ensures.1 e)))

pub returns-in_err-b-in-Intersec-clause-refused : goal.returns-in_err-b-in-Intersec-clause-refused
returns-in_err-b-in-Intersec-clause-refused c = λ f e.
    Refuses-at c.args.word Intersec _ f c.in-Intersec.is
    (Refuses-then (a_line ∷ []) (a_line ∷ []) _ _ _ c.in_ok-a-in-Intersec.ensures.line.reads f
    (c.in_err-b-in-Intersec.ensures.refused f (answered _ _ f c.from_residual-in_err-b-in-Intersec.ensures.1 e)))

pub returns-in_err-w-in-Pratio-clause-refused : goal.returns-in_err-w-in-Pratio-clause-refused
returns-in_err-w-in-Pratio-clause-refused c = λ f e.
    Refuses-at c.args.word Pratio _ f c.in-Pratio.is
    (Refuses-first (a_point ∷ a_point ∷ a_point ∷ []) (a_number ∷ []) _ f (c.in_err-w-in-Pratio.ensures.refused f (answered _ _ f c.from_residual-in_err-w-in-Pratio.ensures.1 e)))

pub returns-in_err-r-in-Pratio-clause-refused : goal.returns-in_err-r-in-Pratio-clause-refused
returns-in_err-r-in-Pratio-clause-refused c = λ f e.
    Refuses-at c.args.word Pratio _ f c.in-Pratio.is
    (Refuses-then (a_point ∷ a_point ∷ a_point ∷ []) (a_number ∷ []) _ _ _ c.in_ok-w-in-Pratio.ensures.points.reads f
    (c.in_err-r-in-Pratio.ensures.refused f (answered _ _ f c.from_residual-in_err-r-in-Pratio.ensures.1 e)))

pub returns-in_err-a-in-Step-clause-refused : goal.returns-in_err-a-in-Step-clause-refused
returns-in_err-a-in-Step-clause-refused c = λ f e.
    Refuses-at c.args.word (Step c.in-Step.word) _ f c.in-Step.is
    (Refuses-first (a_point ∷ a_point ∷ []) (a_number ∷ []) _ f (c.in_err-a-in-Step.ensures.refused f (answered _ _ f c.from_residual-in_err-a-in-Step.ensures.1 e)))

pub returns-in_err-r-in-Step-clause-refused : goal.returns-in_err-r-in-Step-clause-refused
returns-in_err-r-in-Step-clause-refused c = λ f e.
    Refuses-at c.args.word (Step c.in-Step.word) _ f c.in-Step.is
    (Refuses-then (a_point ∷ a_point ∷ []) (a_number ∷ []) _ _ _ c.in_ok-a-in-Step.ensures.points.reads f
    (c.in_err-r-in-Step.ensures.refused f (answered _ _ f c.from_residual-in_err-r-in-Step.ensures.1 e)))

pub returns-in_ok-a-in-Pair-clause-ok : goal.returns-in_ok-a-in-Pair-clause-ok
returns-in_ok-a-in-Pair-clause-ok c =
    let nodes = c.two_points.new.self.terms in
    ReadsForm-at c.args.word (Pair c.in-Pair.word) _ _ _ c.in-Pair.is
    (ReadsForm-made (Pair c.in-Pair.word) _ _ _ _ c.in_ok-a-in-Pair.ensures.points refl (c.on.ensures.form nodes) (c.on.ensures.stored nodes))

pub returns-in_ok-a-in-Triple-clause-ok : goal.returns-in_ok-a-in-Triple-clause-ok
returns-in_ok-a-in-Triple-clause-ok c =
    let nodes = c.three_points.new.self.terms in
    ReadsForm-at c.args.word (Triple c.in-Triple.word) _ _ _ c.in-Triple.is
    (ReadsForm-made (Triple c.in-Triple.word) _ _ _ _ c.in_ok-a-in-Triple.ensures.points refl (c.on-in-Triple.ensures.form nodes) (c.on-in-Triple.ensures.stored nodes))

pub returns-in_ok-b-in-Direction-clause-ok : goal.returns-in_ok-b-in-Direction-clause-ok
returns-in_ok-b-in-Direction-clause-ok c =
    let nodes = c.line.new.self.terms in
    let read = ReadsArguments-then (point_argument c.in_ok-p-in-Direction.p ∷ [])
    (line_argument c.in_ok-b-in-Direction.b ∷ []) _ _ _ c.in_ok-p-in-Direction.ensures.point c.in_ok-b-in-Direction.ensures.line in
    ReadsForm-at c.args.word (Direction c.in-Direction.word) _ _ _ c.in-Direction.is
    (ReadsForm-made (Direction c.in-Direction.word) _ _ _ _ read refl (c.on-in-Direction.ensures.form nodes) (c.on-in-Direction.ensures.stored nodes))

pub returns-in_ok-r-in-Pratio-clause-ok : goal.returns-in_ok-r-in-Pratio-clause-ok
returns-in_ok-r-in-Pratio-clause-ok c =
    let nodes = c.number.new.self.terms in
    let points = point_argument c.in_ok-w-in-Pratio.w ∷ point_argument c.in_ok-w-in-Pratio.u ∷ point_argument c.in_ok-w-in-Pratio.v ∷ [] in
    let read = ReadsArguments-then points
    (number_argument (tree_of nodes c.in_ok-r-in-Pratio.r) ∷ []) _ _ _ c.in_ok-w-in-Pratio.ensures.points
    (ReadsArguments-number _ _ _ c.in_ok-r-in-Pratio.ensures.ok) in
    ReadsForm-at c.args.word Pratio _ _ _ c.in-Pratio.is
    (ReadsForm-made Pratio _ _ _ _ read refl refl c.in_ok-r-in-Pratio.ensures.ok.stored)

pub returns-in_ok-r-in-Step-clause-ok : goal.returns-in_ok-r-in-Step-clause-ok
returns-in_ok-r-in-Step-clause-ok c =
    let nodes = c.number-in-Step.new.self.terms in
    let points = point_argument c.in_ok-a-in-Step.a ∷ point_argument c.in_ok-a-in-Step.b ∷ [] in
    let read = ReadsArguments-then points (number_argument (tree_of nodes c.in_ok-r-in-Step.r) ∷ []) _ _ _ c.in_ok-a-in-Step.ensures.points
    (ReadsArguments-number _ _ _ c.in_ok-r-in-Step.ensures.ok) in
    ReadsForm-at c.args.word (Step c.in-Step.word) _ _ _ c.in-Step.is
    (ReadsForm-made (Step c.in-Step.word) _ _ _ _ read refl (c.on-in-Step.ensures.form nodes) (c.on-in-Step.ensures.stored nodes c.in_ok-r-in-Step.ensures.ok.stored))
