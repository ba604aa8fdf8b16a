-- The goals of commands as the code takes them.
use Rattle.std.specs.Prelude.{ℕ, ◌<◌, pos, Option, Some, None, List, [], ◌∷◌, ◌++◌, length, map}
use Rattle.std.specs.Option.{option_to_list}
use Rattle.geo_points.specs.declared.ids.PointId.{PointId}
use Rattle.geo_points.specs.declared.ids.TermId.{TermId}
use Rattle.geo_terms.specs.Stores.{Store, tree_of}
use Rattle.geo_terms.specs.Trees.{Tree, integer_leaf, area_leaf, pythagoras_leaf, addition, subtraction}
use Rattle.geo_conditions.specs.Inner.ItemTerms.{placed}
use Rattle.geo_conditions.specs.Terms.{midpoint_term}
use Rattle.geo_lowering.specs.Inner.Renaming.{item_at}
use Rattle.geo_library.specs.CitedGoals.{along_goal, bisector_goal, centroid_goal, circle_goal, turned_goal, upright_goal, weights_goal}
use Rattle.geo_library.specs.declared.goals.Goal.{Goal}
use Rattle.geo_library.specs.declared.goals.Goal.TheVariants.{OnLine, Upright, Along, Turned, Midpoint, Halfway, Bisector, Circle, Centroid, Inverse, Weights}
use Rattle.geo_library.specs.declared.goals.Number.{Number}
use Rattle.geo_library.specs.declared.goals.Number.TheVariants.{One, Stored}

-- the tree of a number
abbrev pub number_tree : Store → Number → Tree
number_tree nodes One = integer_leaf (pos 1)
number_tree nodes (Stored e) = tree_of nodes e

-- the tree of a goal
abbrev pub goal_tree : Store → Goal → Tree
goal_tree nodes (OnLine a b x) = area_leaf a b x
goal_tree nodes (Upright x y a b) = upright_goal x y a b
goal_tree nodes (Along x w u v r) = along_goal x w u v (number_tree nodes r)
goal_tree nodes (Turned x u v r) = turned_goal x u v (tree_of nodes r)
goal_tree nodes (Midpoint m a b) = midpoint_term m.0 a.0 b.0
goal_tree nodes (Halfway x a p q) = addition (area_leaf p q x) (area_leaf p q a)
goal_tree nodes (Bisector x a b) = bisector_goal x a b
goal_tree nodes (Circle x o a) = circle_goal x o a
goal_tree nodes (Centroid x a b c) = centroid_goal x a b c
goal_tree nodes (Inverse x p o a) = subtraction (pythagoras_leaf x o p) (pythagoras_leaf a o a)
goal_tree nodes (Weights x a b c r s) = weights_goal x a b c (tree_of nodes r) (tree_of nodes s)

-- the trees of both goals of a command
abbrev pub goal_trees : Store → Option Goal × Option Goal → List Tree
goal_trees nodes goals = map (goal_tree nodes) (option_to_list goals.0 ++ option_to_list goals.1)

-- the number is one of the first n terms
abbrev pub IsNumberWithin : ℕ → Number → Type 0
IsNumberWithin n One = Unit {0}
IsNumberWithin n (Stored e) = e.0 < n

-- so are those of the goal
abbrev pub IsGoalWithin : ℕ → Goal → Type 0
IsGoalWithin n (Along x w u v r) = IsNumberWithin n r
IsGoalWithin n (Turned x u v r) = r.0 < n
IsGoalWithin n (Weights x a b c r s) = (r.0 < n) × (s.0 < n)
IsGoalWithin n _ = Unit {0}

-- a number, in another store
abbrev pub placed_number : List TermId → Number → Number
placed_number terms One = One
placed_number terms (Stored e) = Stored (item_at terms e)

-- a goal over other points, with its terms in another store
abbrev pub placed_goal : List PointId → List TermId → Goal → Goal
placed_goal points terms (OnLine a b x) = OnLine (placed points a) (placed points b) (placed points x)
placed_goal points terms (Upright x y a b) = Upright (placed points x) (placed points y) (placed points a) (placed points b)
placed_goal points terms (Along x w u v r) =
    Along (placed points x) (placed points w) (placed points u) (placed points v) (placed_number terms r)
placed_goal points terms (Turned x u v r) = Turned (placed points x) (placed points u) (placed points v) (item_at terms r)
placed_goal points terms (Midpoint m a b) = Midpoint (placed points m) (placed points a) (placed points b)
placed_goal points terms (Halfway x a p q) = Halfway (placed points x) (placed points a) (placed points p) (placed points q)
placed_goal points terms (Bisector x a b) = Bisector (placed points x) (placed points a) (placed points b)
placed_goal points terms (Circle x o a) = Circle (placed points x) (placed points o) (placed points a)
placed_goal points terms (Centroid x a b c) = Centroid (placed points x) (placed points a) (placed points b) (placed points c)
placed_goal points terms (Inverse x p o a) = Inverse (placed points x) (placed points p) (placed points o) (placed points a)
placed_goal points terms (Weights x a b c r s) =
    Weights (placed points x) (placed points a) (placed points b) (placed points c) (item_at terms r) (item_at terms s)
