-- What a command says of its point, as terms that are 0 where the command is met.
use Rattle.std.specs.Prelude.{Bool, false, pos, true, List, [], ◌∷◌}
use Rattle.geo_points.specs.declared.ids.PointId.{PointId}
use Rattle.geo_terms.specs.Stores.{Store, tree_of}
use Rattle.geo_terms.specs.Trees.{Tree, integer_leaf, area_leaf, pythagoras_leaf, addition, subtraction, multiplication}
use Rattle.geo_program.specs.declared.commands.Command.{Command}
use Rattle.geo_program.specs.declared.commands.Command.TheVariants.{Line, Parallel, Perp, Med, Intersec, Inter, Foot, Pratio, Tratio}
use Rattle.geo_program.specs.declared.commands.Command.TheVariants.{Online, Lratio, Midpoint, Translate, Symmetric, Reflect, Circumcenter}
use Rattle.geo_program.specs.declared.commands.Command.TheVariants.{Orthocenter, Centroid, Oncircle, Second, Cc, Inverse, Weights}
use Rattle.geo_conditions.specs.Terms.{midpoint_term}

-- P_XWX + r r P_UVU - 2 r (P_XUV - P_WUV), which is twice the square of the length of X - W - r (V - U)
abbrev pub along_goal : PointId → PointId → PointId → PointId → Tree → Tree
along_goal x w u v r =
    subtraction (addition (pythagoras_leaf x w x) (multiplication (multiplication r r) (pythagoras_leaf u v u)))
    (multiplication (multiplication (integer_leaf (pos 2)) r) (subtraction (pythagoras_leaf x u v) (pythagoras_leaf w u v)))

-- P_XUX + r r P_UVU - 8 r S_UVX, which is twice the square of the length of X - U - r J (V - U)
abbrev pub turned_goal : PointId → PointId → PointId → Tree → Tree
turned_goal x u v r =
    subtraction (addition (pythagoras_leaf x u x) (multiplication (multiplication r r) (pythagoras_leaf u v u)))
    (multiplication (multiplication (integer_leaf (pos 8)) r) (area_leaf u v x))

-- P_XAB - P_YAB: XY is perpendicular to AB
abbrev pub upright_goal : PointId → PointId → PointId → PointId → Tree
upright_goal x y a b = subtraction (pythagoras_leaf x a b) (pythagoras_leaf y a b)

-- P_XOX - P_AOA: X and A are at the same distance from O
abbrev pub circle_goal : PointId → PointId → PointId → Tree
circle_goal x o a = subtraction (pythagoras_leaf x o x) (pythagoras_leaf a o a)

-- P_XAX - P_XBX: A and B are at the same distance from X
abbrev pub bisector_goal : PointId → PointId → PointId → Tree
bisector_goal x a b = subtraction (pythagoras_leaf x a x) (pythagoras_leaf x b x)

-- P_AXA + P_BXB + P_CXC + 2 (P_AXB + P_BXC + P_CXA), which is twice the square of the length of A + B + C - 3 X
abbrev pub centroid_goal : PointId → PointId → PointId → PointId → Tree
centroid_goal x a b c =
    addition (addition (addition (pythagoras_leaf a x a) (pythagoras_leaf b x b)) (pythagoras_leaf c x c))
    (multiplication (integer_leaf (pos 2)) (addition (addition (pythagoras_leaf a x b) (pythagoras_leaf b x c)) (pythagoras_leaf c x a)))

-- P_XAX + r r P_BAB + s s P_CAC - 2 r P_XAB - 2 s P_XAC + 2 r s P_BAC, which is twice the square of the length of
-- X - A - r (B - A) - s (C - A)
abbrev pub weights_goal : PointId → PointId → PointId → PointId → Tree → Tree → Tree
weights_goal x a b c r s =
    addition
    (subtraction
    (subtraction
    (addition (addition (pythagoras_leaf x a x) (multiplication (multiplication r r) (pythagoras_leaf b a b)))
    (multiplication (multiplication s s) (pythagoras_leaf c a c)))
    (multiplication (multiplication (integer_leaf (pos 2)) r) (pythagoras_leaf x a b)))
    (multiplication (multiplication (integer_leaf (pos 2)) s) (pythagoras_leaf x a c)))
    (multiplication (multiplication (multiplication (integer_leaf (pos 2)) r) s) (pythagoras_leaf b a c))

-- the goals of a command that makes the point x; a point, a parameter and an assumption have none
abbrev pub command_goals : Store → PointId → Command → List Tree
command_goals nodes x (Inter a b c d) = area_leaf a b x ∷ area_leaf c d x ∷ []
command_goals nodes x (Foot p a b) = area_leaf a b x ∷ upright_goal x p a b ∷ []
command_goals nodes x (Pratio w u v r) = along_goal x w u v (tree_of nodes r) ∷ []
command_goals nodes x (Tratio u v r) = turned_goal x u v (tree_of nodes r) ∷ []
command_goals nodes x (Online a b) = area_leaf a b x ∷ []
command_goals nodes x (Lratio a b r) = along_goal x a a b (tree_of nodes r) ∷ []
command_goals nodes x (Midpoint a b) = midpoint_term x.0 a.0 b.0 ∷ []
command_goals nodes x (Translate a b c) = along_goal x c a b (integer_leaf (pos 1)) ∷ []
command_goals nodes x (Symmetric a o) = midpoint_term o.0 a.0 x.0 ∷ []
command_goals nodes x (Reflect a p q) = addition (area_leaf p q x) (area_leaf p q a) ∷ upright_goal x a p q ∷ []
command_goals nodes x (Circumcenter a b c) = bisector_goal x a b ∷ bisector_goal x a c ∷ []
command_goals nodes x (Orthocenter a b c) = upright_goal x a c b ∷ upright_goal x b c a ∷ []
command_goals nodes x (Centroid a b c) = centroid_goal x a b c ∷ []
command_goals nodes x (Oncircle o a) = circle_goal x o a ∷ []
command_goals nodes x (Second a b o) = area_leaf a b x ∷ circle_goal x o a ∷ []
command_goals nodes x (Cc o p a) = circle_goal x o a ∷ circle_goal x p a ∷ []
command_goals nodes x (Inverse p o a) = area_leaf o p x ∷ subtraction (pythagoras_leaf x o p) (pythagoras_leaf a o a) ∷ []
command_goals nodes x (Weights a b c r s) = weights_goal x a b c (tree_of nodes r) (tree_of nodes s) ∷ []
command_goals nodes x _ = []

-- the command names a line or takes one; such a command is not cited
abbrev pub has_lines : Command → Bool
has_lines (Line a b) = true
has_lines (Parallel p b) = true
has_lines (Perp p b) = true
has_lines (Med a b) = true
has_lines (Intersec a b) = true
has_lines _ = false
