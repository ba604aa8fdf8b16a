-- What a statement says of a placement, its conditions and its goals.
use Rattle.std.specs.Prelude.{◌≡◌, pos, List, [], ◌∷◌, ◌++◌}
use Rattle.ring_laws.specs.Fraction.{Same, whole}
use Rattle.geo_points.specs.Points.{squared_distance, Point, cross_product, dot_product, ratio, HasRatio}
use Rattle.geo_points.specs.Placements.{Placement, SamePoint}
use Rattle.geo_terms.specs.Stores.{Store, tree_of}
use Rattle.geo_terms.specs.Trees.{Tree, ratio_leaf, negation, addition, subtraction, multiplication, division}
use Rattle.geo_terms.specs.Values.{HasTreeValue, tree_value}
use Rattle.geo_program.specs.declared.statements.Statement.{Statement}
use Rattle.geo_program.specs.declared.statements.Statement.TheVariants.{Equal, Collinear, Parallel, Perpendicular, Identical, Midpoint, SameLength, Harmonic, Concyclic}
use Rattle.geo_program.specs.WellFormed.{Source}
use Rattle.geo_lowering.specs.CommandsMet.{reading}
use Rattle.geo_lowering.specs.Conditions.{Condition, different, expression_conditions}
use Rattle.geo_lowering.specs.Relations.{IsMidpoint, circle_determinant}

-- AC / CB and AD / BD are defined and equal
pub record IsHarmonic (A B C D : Point) : Type 0 where
  pub first : HasRatio A C C B
  pub second : HasRatio A D B D
  pub equal : Same (ratio A C C B) (ratio A D B D)

-- both terms have values, and these are the same
pub record HaveSameValue (placed : Placement) (e f : Tree) : Type 0 where
  pub left : HasTreeValue placed e
  pub right : HasTreeValue placed f
  pub same : Same (tree_value placed e) (tree_value placed f)

-- the statement holds in the placement of the program
abbrev pub StatementHolds : Source → Placement → Statement → Type 0
StatementHolds p placed (Equal e f) = HaveSameValue (reading p placed) (tree_of p.nodes e) (tree_of p.nodes f)
StatementHolds p placed (Collinear a b c) =
    cross_product (placed.point a.0) (placed.point b.0) (placed.point a.0) (placed.point c.0) ≡ pos 0
StatementHolds p placed (Parallel a b c d) =
    cross_product (placed.point a.0) (placed.point b.0) (placed.point c.0) (placed.point d.0) ≡ pos 0
StatementHolds p placed (Perpendicular a b c d) =
    dot_product (placed.point a.0) (placed.point b.0) (placed.point c.0) (placed.point d.0) ≡ pos 0
StatementHolds p placed (Identical a b) = SamePoint (placed.point a.0) (placed.point b.0)
StatementHolds p placed (Midpoint m a b) = IsMidpoint (placed.point m.0) (placed.point a.0) (placed.point b.0)
StatementHolds p placed (SameLength a b c d) =
    Same (squared_distance (placed.point a.0) (placed.point b.0)) (squared_distance (placed.point c.0) (placed.point d.0))
StatementHolds p placed (Harmonic a b c d) = IsHarmonic (placed.point a.0) (placed.point b.0) (placed.point c.0) (placed.point d.0)
StatementHolds p placed (Concyclic a b c d) =
    Same (circle_determinant (placed.point a.0) (placed.point b.0) (placed.point c.0) (placed.point d.0)) (whole (pos 0))

-- the conditions of a statement: those of its expressions, or that the second pairs of its ratios differ
abbrev pub statement_conditions : Store → Statement → List Condition
statement_conditions nodes (Equal e f) = expression_conditions (tree_of nodes e) ++ expression_conditions (tree_of nodes f)
statement_conditions nodes (Harmonic a b c d) = different c b ∷ different b d ∷ []
statement_conditions nodes _ = []

-- GOALS
-- of each ratio of an expression, from left to right, that its pairs are parallel
abbrev pub ratio_goals : Tree → List Statement
ratio_goals (ratio_leaf a b c d) = Parallel a b c d ∷ []
ratio_goals (negation e) = ratio_goals e
ratio_goals (addition e f) = ratio_goals e ++ ratio_goals f
ratio_goals (subtraction e f) = ratio_goals e ++ ratio_goals f
ratio_goals (multiplication e f) = ratio_goals e ++ ratio_goals f
ratio_goals (division e f) = ratio_goals e ++ ratio_goals f
ratio_goals _ = []

-- those of the ratios of a statement
abbrev pub pair_goals : Store → Statement → List Statement
pair_goals nodes (Equal e f) = ratio_goals (tree_of nodes e) ++ ratio_goals (tree_of nodes f)
pair_goals nodes (Harmonic a b c d) = Parallel a c c b ∷ Parallel a d b d ∷ []
pair_goals nodes _ = []

-- the goals of a statement: those of its ratios, and then the statement itself
abbrev pub statement_goals : Store → Statement → List Statement
statement_goals nodes s = pair_goals nodes s ++ s ∷ []
