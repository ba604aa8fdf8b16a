-- The terms of conditions and goals, over the points and numbers of the lowered form.
use Rattle.std.specs.Prelude.{ℕ, pos}
use Rattle.ring_laws.specs.Fraction.{IsNonzero, Same, whole}
use Rattle.geo_points.specs.Placements.{Placement}
use Rattle.geo_terms.specs.Stores.{Store, tree_of}
use Rattle.geo_terms.specs.Trees.{Tree, integer_leaf, area_leaf, pythagoras_leaf, ratio_leaf, addition, subtraction, multiplication}
use Rattle.geo_terms.specs.Values.{HasTreeValue, tree_value}
use Rattle.geo_program.specs.declared.statements.Statement.{Statement}
use Rattle.geo_program.specs.declared.statements.Statement.TheVariants.{Equal, Collinear, Parallel, Perpendicular, Identical, Midpoint, SameLength, Harmonic, Concyclic}
use Rattle.geo_lowering.specs.Conditions.{Condition, different, not_collinear, not_parallel, crossing, nonzero}
use Rattle.geo_lowering.specs.Lowering.{Layout, renamed}

-- the signed area of three points, by their numbers
abbrev pub area_of : ℕ → ℕ → ℕ → Tree
area_of a b c = area_leaf (record { 0 = a }) (record { 0 = b }) (record { 0 = c })

-- their Pythagoras difference
abbrev pub pythagoras_of : ℕ → ℕ → ℕ → Tree
pythagoras_of a b c = pythagoras_leaf (record { 0 = a }) (record { 0 = b }) (record { 0 = c })

-- the ratio of two pairs of points
abbrev pub ratio_of : ℕ → ℕ → ℕ → ℕ → Tree
ratio_of a b c d = ratio_leaf (record { 0 = a }) (record { 0 = b }) (record { 0 = c }) (record { 0 = d })

-- S_ACD - S_BCD, which is 0 where AB and CD are parallel
abbrev pub parallel_term : ℕ → ℕ → ℕ → ℕ → Tree
parallel_term a b c d = subtraction (area_of a c d) (area_of b c d)

-- the term that is not 0 where the condition holds
abbrev pub condition_term : Layout → Condition → Tree
condition_term l (different a b) = pythagoras_of (l.point a.0) (l.point b.0) (l.point a.0)
condition_term l (not_collinear a b c) = area_of (l.point a.0) (l.point b.0) (l.point c.0)
condition_term l (not_parallel a b c d) = parallel_term (l.point a.0) (l.point b.0) (l.point c.0) (l.point d.0)
condition_term l (crossing a b) = parallel_term (l.line a.0).left (l.line a.0).right (l.line b.0).left (l.line b.0).right
condition_term l (nonzero e) = renamed l e

-- 2 P_AMA + 2 P_BMB - P_ABA
abbrev pub midpoint_term : ℕ → ℕ → ℕ → Tree
midpoint_term m a b =
    subtraction
    (addition (multiplication (integer_leaf (pos 2)) (pythagoras_of a m a)) (multiplication (integer_leaf (pos 2)) (pythagoras_of b m b)))
    (pythagoras_of a b a)

-- S_CAD P_CBD - P_CAD S_CBD
abbrev pub circle_term : ℕ → ℕ → ℕ → ℕ → Tree
circle_term a b c d =
    subtraction (multiplication (area_of c a d) (pythagoras_of c b d)) (multiplication (pythagoras_of c a d) (area_of c b d))

-- the term that is 0 where the goal holds
abbrev pub goal_term : Layout → Store → Statement → Tree
goal_term l nodes (Equal e f) = subtraction (renamed l (tree_of nodes e)) (renamed l (tree_of nodes f))
goal_term l nodes (Collinear a b c) = area_of (l.point a.0) (l.point b.0) (l.point c.0)
goal_term l nodes (Parallel a b c d) = parallel_term (l.point a.0) (l.point b.0) (l.point c.0) (l.point d.0)
goal_term l nodes (Perpendicular a b c d) =
    subtraction (pythagoras_of (l.point a.0) (l.point c.0) (l.point d.0)) (pythagoras_of (l.point b.0) (l.point c.0) (l.point d.0))
goal_term l nodes (Identical a b) = pythagoras_of (l.point a.0) (l.point b.0) (l.point a.0)
goal_term l nodes (Midpoint m a b) = midpoint_term (l.point m.0) (l.point a.0) (l.point b.0)
goal_term l nodes (SameLength a b c d) =
    subtraction (pythagoras_of (l.point a.0) (l.point b.0) (l.point a.0)) (pythagoras_of (l.point c.0) (l.point d.0) (l.point c.0))
goal_term l nodes (Harmonic a b c d) =
    subtraction (ratio_of (l.point a.0) (l.point c.0) (l.point c.0) (l.point b.0))
    (ratio_of (l.point a.0) (l.point d.0) (l.point b.0) (l.point d.0))
goal_term l nodes (Concyclic a b c d) = circle_term (l.point a.0) (l.point b.0) (l.point c.0) (l.point d.0)

-- the term has a value, and it is not 0
abbrev pub HasNonzeroValue : Placement → Tree → Type 0
HasNonzeroValue placed e = HasTreeValue placed e × IsNonzero (tree_value placed e)

-- the term has the value 0
abbrev pub HasZeroValue : Placement → Tree → Type 0
HasZeroValue placed e = HasTreeValue placed e × Same (tree_value placed e) (whole (pos 0))
