-- What the terms of conditions and goals are made of, and how they are put into a store.
use Rattle.std.specs.Prelude.{◌≡◌, ℕ, ◌<◌, ◌≤◌, List, length, map, slice_index_or}
use Rattle.geo_points.specs.declared.ids.PointId.{PointId}
use Rattle.geo_points.specs.declared.ids.ParamId.{ParamId}
use Rattle.geo_points.specs.declared.ids.TermId.{TermId}
use Rattle.geo_terms.specs.Constructions.{Construction}
use Rattle.geo_terms.specs.Stores.{Store, tree_of}
use Rattle.geo_terms.specs.Trees.{Tree, subtraction}
use Rattle.geo_program.specs.declared.commands.LineId.{LineId}
use Rattle.geo_program.specs.declared.statements.Statement.{Statement}
use Rattle.geo_program.specs.declared.statements.Statement.TheVariants as statement
use Rattle.geo_lowering.specs.Lowering.{Layout, Pair, pair_numbers}
use Rattle.geo_lowering.specs.Inner.Renaming.{item_at}
use Rattle.geo_conditions.specs.declared.conditions.Condition.{Condition}
use Rattle.geo_conditions.specs.declared.conditions.Condition.TheVariants as condition
use Rattle.geo_conditions.specs.declared.item_terms.ItemTerm.{ItemTerm}
use Rattle.geo_conditions.specs.declared.item_terms.ItemTerm.TheVariants.{Square, Area, Parallel, Perpendicular, Midpoint, SameLength, Harmonic, Concyclic, Stored, Difference}
use Rattle.geo_conditions.specs.Terms.{area_of, circle_term, midpoint_term, parallel_term, pythagoras_of, ratio_of}

-- the tree of the term
abbrev pub item_tree : Store → ItemTerm → Tree
item_tree nodes (Square a b) = pythagoras_of a.0 b.0 a.0
item_tree nodes (Area a b c) = area_of a.0 b.0 c.0
item_tree nodes (Parallel a b c d) = parallel_term a.0 b.0 c.0 d.0
item_tree nodes (Perpendicular a b c d) = subtraction (pythagoras_of a.0 c.0 d.0) (pythagoras_of b.0 c.0 d.0)
item_tree nodes (Midpoint m a b) = midpoint_term m.0 a.0 b.0
item_tree nodes (SameLength a b c d) = subtraction (pythagoras_of a.0 b.0 a.0) (pythagoras_of c.0 d.0 c.0)
item_tree nodes (Harmonic a b c d) = subtraction (ratio_of a.0 c.0 c.0 b.0) (ratio_of a.0 d.0 b.0 d.0)
item_tree nodes (Concyclic a b c d) = circle_term a.0 b.0 c.0 d.0
item_tree nodes (Stored e) = tree_of nodes e
item_tree nodes (Difference e f) = subtraction (tree_of nodes e) (tree_of nodes f)

-- its terms stand in the store
abbrev pub IsItemStored : Store → ItemTerm → Type 0
IsItemStored nodes (Stored e) = e.0 < length nodes
IsItemStored nodes (Difference e f) = (e.0 < length nodes) × (f.0 < length nodes)
IsItemStored nodes _ = Unit {0}

-- a named point among all points
abbrev pub placed : List PointId → PointId → PointId
placed points a = record { 0 = slice_index_or (map (λ p. p.0) points) a.0 0 }

-- the pair of a line
abbrev pub placed_pair : List (PointId × PointId) → LineId → Pair
placed_pair lines a = slice_index_or (map pair_numbers lines) a.0 (record { left = 0; right = 0 })

-- the term of two pairs that cross
abbrev pub crossing_pairs : Pair → Pair → ItemTerm
crossing_pairs p q = Parallel (record { 0 = p.left }) (record { 0 = p.right }) (record { 0 = q.left }) (record { 0 = q.right })

-- the term of a condition, over the renamed terms
abbrev pub condition_item_term : List PointId → List (PointId × PointId) → List TermId → Condition → ItemTerm
condition_item_term points lines terms (condition.Different a b) = Square (placed points a) (placed points b)
condition_item_term points lines terms (condition.NotCollinear a b c) = Area (placed points a) (placed points b) (placed points c)
condition_item_term points lines terms (condition.NotParallel a b c d) =
    Parallel (placed points a) (placed points b) (placed points c) (placed points d)
condition_item_term points lines terms (condition.Crossing a b) = crossing_pairs (placed_pair lines a) (placed_pair lines b)
condition_item_term points lines terms (condition.Nonzero e) = Stored (item_at terms e)

-- the term of a goal, over the renamed terms
abbrev pub goal_item_term : List PointId → List TermId → Statement → ItemTerm
goal_item_term points terms (statement.Equal e f) = Difference (item_at terms e) (item_at terms f)
goal_item_term points terms (statement.Collinear a b c) = Area (placed points a) (placed points b) (placed points c)
goal_item_term points terms (statement.Parallel a b c d) = Parallel (placed points a) (placed points b) (placed points c) (placed points d)
goal_item_term points terms (statement.Perpendicular a b c d) =
    Perpendicular (placed points a) (placed points b) (placed points c) (placed points d)
goal_item_term points terms (statement.Identical a b) = Square (placed points a) (placed points b)
goal_item_term points terms (statement.Midpoint m a b) = Midpoint (placed points m) (placed points a) (placed points b)
goal_item_term points terms (statement.SameLength a b c d) =
    SameLength (placed points a) (placed points b) (placed points c) (placed points d)
goal_item_term points terms (statement.Harmonic a b c d) = Harmonic (placed points a) (placed points b) (placed points c) (placed points d)
goal_item_term points terms (statement.Concyclic a b c d) =
    Concyclic (placed points a) (placed points b) (placed points c) (placed points d)

-- the condition's term is one of the first n
abbrev pub IsTermWithin : ℕ → Condition → Type 0
IsTermWithin n (condition.Nonzero e) = e.0 < n
IsTermWithin n _ = Unit {0}

-- so are the goal's sides
abbrev pub AreSidesWithin : ℕ → Statement → Type 0
AreSidesWithin n (statement.Equal e f) = (e.0 < n) × (f.0 < n)
AreSidesWithin n _ = Unit {0}

-- these points and parameters, as far as terms go
abbrev pub terms_layout : List PointId → List ParamId → Layout
terms_layout points params = record {
  point = λ a. slice_index_or (map (λ p. p.0) points) a 0;
  line = λ a. record { left = 0; right = 0 };
  param = λ t. slice_index_or (map (λ p. p.0) params) t 0;
}

-- INTERNING
-- steps and parameters stay, and so do the trees of the terms that were there
pub record Keeps (old new : Construction) : Type 0 where
  pub steps : new.steps ≡ old.steps
  pub params : new.params ≡ old.params
  pub longer : length old.nodes ≤ length new.nodes
  pub trees : (e : TermId) → e.0 < length old.nodes → tree_of new.nodes e ≡ tree_of old.nodes e

-- and there is a term of this tree
pub record HasTerm (old new : Construction) (id : TermId) (tree : Tree) : Type 0 where
  pub keeps : Keeps old new
  pub stored : id.0 < length new.nodes
  pub is : tree_of new.nodes id ≡ tree
