use Rattle.std.proofs.Common.{◌≡◌, [], ◌∷◌, refl, sym, subst, arith}
use Rattle.geo_program.specs.Forms.{number_argument, point_argument}
use Rattle.geo_terms.specs.Stores.{tree_of}
use Rattle.geo_terms.specs.Trees.{Tree}
use Rattle.geo_parser.specs.declared.command_words.CommandWord.TheVariants.{Weights}
use Rattle.geo_parser.specs.Forms.{a_number, a_point}
use Rattle.geo_parser.specs.Inner.Reads.{ReadsArguments}
use Rattle.geo_parser.proofs.FormReading.{ReadsArguments-number, ReadsForm-made}
use Rattle.geo_parser.proofs.Reading.{ReadsArguments-then, Refuses-first, Refuses-then, answered}
use Rattle.geo_parser.proofs.reader.Reader.weights.Goals as goal

pub returns-in_err-a-clause-refused : goal.returns-in_err-a-clause-refused
returns-in_err-a-clause-refused c = λ f e.
    Refuses-first (a_point ∷ a_point ∷ a_point ∷ []) (a_number ∷ a_number ∷ []) _ f (c.in_err-a.ensures.refused f (answered _ _ f c.from_residual.ensures.1 e))

pub number-requires : goal.number-requires
number-requires c = omega (arith, c.in_ok-a.ensures.points.reads.room, c.requires)

pub returns-in_err-r-clause-refused : goal.returns-in_err-r-clause-refused
returns-in_err-r-clause-refused c = λ f e.
    Refuses-then (a_point ∷ a_point ∷ a_point ∷ []) (a_number ∷ a_number ∷ []) _ _ _ c.in_ok-a.ensures.points.reads f
    (Refuses-first (a_number ∷ []) (a_number ∷ []) _ f (c.in_err-r.ensures.refused f (answered _ _ f c.from_residual-in_err-r.ensures.1 e)))

pub number-requires-2 : goal.number-requires-2
number-requires-2 c = omega (arith, c.in_ok-a.ensures.points.reads.room, c.in_ok-r.ensures.ok.reads.room, c.requires)

pub returns-in_err-s-clause-refused : goal.returns-in_err-s-clause-refused
returns-in_err-s-clause-refused c = λ f e.
    Refuses-then (a_point ∷ a_point ∷ a_point ∷ []) (a_number ∷ a_number ∷ []) _ _ _ c.in_ok-a.ensures.points.reads f
    (Refuses-then (a_number ∷ []) (a_number ∷ []) _ _ _ c.in_ok-r.ensures.ok.reads f (c.in_err-s.ensures.refused f (answered _ _ f c.from_residual-in_err-s.ensures.1 e)))

pub returns-clause-ok : goal.returns-clause-ok
returns-clause-ok c =
    let nodes = c.number-2.new.self.terms in
    let r = c.in_ok-r.r in
    let s = c.in_ok-s.s in
    let later = c.in_ok-s.ensures.ok.reads.terms in
    let kept : tree_of nodes r ≡ tree_of c.number.new.self.terms r = later.others r c.in_ok-r.ensures.ok.stored in
    let points = point_argument c.in_ok-a.a ∷ point_argument c.in_ok-a.b ∷ point_argument c.in_ok-a.c ∷ [] in
    let P : Tree → Type 0 = λ e. ReadsArguments (number_argument e ∷ []) c.three_points.new.self c.number.new.self in
    let first = subst P (sym kept) (ReadsArguments-number _ _ _ c.in_ok-r.ensures.ok) in
    let numbers = ReadsArguments-then (number_argument (tree_of nodes r) ∷ []) (number_argument (tree_of nodes s) ∷ []) _ _ _ first (ReadsArguments-number _ _ _ c.in_ok-s.ensures.ok) in
    let read = ReadsArguments-then points (number_argument (tree_of nodes r) ∷ number_argument (tree_of nodes s) ∷ []) _ _ _ c.in_ok-a.ensures.points numbers in
    ReadsForm-made Weights _ _ _ _ read refl refl (omega (arith, c.in_ok-r.ensures.ok.stored, later.longer), c.in_ok-s.ensures.ok.stored)
