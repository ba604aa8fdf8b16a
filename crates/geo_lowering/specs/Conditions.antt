-- Conditions, what they mean, and those that a command gives.
use Rattle.std.specs.Prelude.{◌≢◌, ℕ, suc, pos, negsuc, All, List, [], ◌∷◌, ◌++◌}
use Rattle.geo_points.specs.declared.ids.PointId.{PointId}
use Rattle.ring_laws.specs.Fraction.{IsNonzero}
use Rattle.geo_points.specs.Placements.{Placement}
use Rattle.geo_points.specs.Points.{cross_product}
use Rattle.geo_terms.specs.Stores.{Store, tree_of}
use Rattle.geo_terms.specs.Trees.{Tree, integer_leaf, ratio_leaf, negation, addition, subtraction, multiplication, division}
use Rattle.geo_terms.specs.Values.{HasTreeValue, tree_value}
use Rattle.geo_program.specs.declared.commands.Command.{Command}
use Rattle.geo_program.specs.declared.commands.Command.TheVariants.{Line, Med, Intersec, Inter, Foot, Pratio, Tratio, Online, Lratio}
use Rattle.geo_program.specs.declared.commands.Command.TheVariants.{Reflect, Circumcenter, Orthocenter, Oncircle, Second, Cc, Inverse}
use Rattle.geo_program.specs.declared.commands.Command.TheVariants.{Weights, AssumeDifferent, AssumeNotCollinear, AssumeNotParallel}
use Rattle.geo_program.specs.declared.commands.LineId.{LineId}
use Rattle.geo_program.specs.declared.names.NameKind.TheVariants as kind
use Rattle.geo_program.specs.WellFormed.{Source}
use Rattle.geo_lowering.specs.CommandsMet.{line_of, reading}
use Rattle.geo_lowering.specs.Counting.{named, counted}
use Rattle.geo_lowering.specs.Lines.{AreParallel}
use Rattle.geo_points.specs.Vectors.{Differ}

-- a condition: A and B differ; A, B and C are on no line; AB and CD are not parallel; the lines a and b are not; the expression is not 0
pub data Condition : Type 0 where
  different : PointId → PointId → Condition
  not_collinear : PointId → PointId → PointId → Condition
  not_parallel : PointId → PointId → PointId → PointId → Condition
  crossing : LineId → LineId → Condition
  nonzero : Tree → Condition

-- the condition holds
abbrev pub IsConditionMet : Source → Placement → Condition → Type 0
IsConditionMet s placed (different a b) = Differ (placed.point a.0) (placed.point b.0)
IsConditionMet s placed (not_collinear a b c) =
    cross_product (placed.point a.0) (placed.point b.0) (placed.point a.0) (placed.point c.0) ≢ pos 0
IsConditionMet s placed (not_parallel a b c d) =
    cross_product (placed.point a.0) (placed.point b.0) (placed.point c.0) (placed.point d.0) ≢ pos 0
IsConditionMet s placed (crossing a b) = AreParallel (line_of s placed a) (line_of s placed b) → ⊥
IsConditionMet s placed (nonzero e) = HasTreeValue (reading s placed) e × IsNonzero (tree_value (reading s placed) e)

-- a divisor gives that it is not 0, but for a number that is seen not to be
abbrev pub divisor_conditions : Tree → List Condition
divisor_conditions (integer_leaf (pos (suc n))) = []
divisor_conditions (integer_leaf (negsuc n)) = []
divisor_conditions f = nonzero f ∷ []

-- the conditions that an expression gives, from left to right and each after those of its parts: of a ratio that its second pair differs,
-- of a division its divisor's
abbrev pub expression_conditions : Tree → List Condition
expression_conditions (ratio_leaf a b c d) = different c d ∷ []
expression_conditions (negation e) = expression_conditions e
expression_conditions (addition e f) = expression_conditions e ++ expression_conditions f
expression_conditions (subtraction e f) = expression_conditions e ++ expression_conditions f
expression_conditions (multiplication e f) = expression_conditions e ++ expression_conditions f
expression_conditions (division e f) = expression_conditions e ++ expression_conditions f ++ divisor_conditions f
expression_conditions _ = []

-- the conditions of a command that do not name its point
abbrev pub early_conditions : Store → Command → List Condition
early_conditions nodes (Line a b) = different a b ∷ []
early_conditions nodes (Med a b) = different a b ∷ []
early_conditions nodes (Intersec a b) = crossing a b ∷ []
early_conditions nodes (Inter a b c d) = not_parallel a b c d ∷ []
early_conditions nodes (Foot p a b) = different a b ∷ []
early_conditions nodes (Pratio w u v r) = expression_conditions (tree_of nodes r)
early_conditions nodes (Tratio u v r) = expression_conditions (tree_of nodes r)
early_conditions nodes (Online a b) = different a b ∷ []
early_conditions nodes (Lratio a b r) = expression_conditions (tree_of nodes r)
early_conditions nodes (Reflect a p q) = different p q ∷ []
early_conditions nodes (Circumcenter a b c) = not_collinear a b c ∷ []
early_conditions nodes (Orthocenter a b c) = not_collinear a b c ∷ []
early_conditions nodes (Oncircle o a) = different o a ∷ []
early_conditions nodes (Second a b o) = different a b ∷ []
early_conditions nodes (Cc o p a) = different o p ∷ []
early_conditions nodes (Inverse p o a) = different o p ∷ []
early_conditions nodes (Weights a b c r s) = expression_conditions (tree_of nodes r) ++ expression_conditions (tree_of nodes s)
early_conditions nodes (AssumeDifferent a b) = different a b ∷ []
early_conditions nodes (AssumeNotCollinear a b c) = not_collinear a b c ∷ []
early_conditions nodes (AssumeNotParallel a b c d) = not_parallel a b c d ∷ []
early_conditions nodes _ = []

-- the conditions of a command that name its point x
abbrev pub late_conditions : PointId → Command → List Condition
late_conditions x (Oncircle o a) = not_collinear o a x ∷ []
late_conditions x (Second a b o) = different a x ∷ []
late_conditions x (Cc o p a) = different a x ∷ []
late_conditions x _ = []

-- the conditions of a command
abbrev pub command_conditions : Store → PointId → Command → List Condition
command_conditions nodes x c = early_conditions nodes c ++ late_conditions x c

-- the conditions of the commands, where their points are those from x on
abbrev pub AreConditionsMet : Source → Placement → ℕ → List Command → Type 0
AreConditionsMet s placed x [] = Unit {0}
AreConditionsMet s placed x (c ∷ cs) =
    All (IsConditionMet s placed) (command_conditions s.nodes (record { 0 = x }) c)
    × AreConditionsMet s placed (counted kind.Point (named c) x) cs
