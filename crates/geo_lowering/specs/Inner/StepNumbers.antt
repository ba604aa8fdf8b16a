-- The numbers of steps, by index.
use Rattle.std.specs.Prelude.{◌≡◌, ℕ, ◌<◌, length}
use Rattle.geo_points.specs.declared.ids.TermId.{TermId}
use Rattle.geo_terms.specs.Stores.{Store, tree_of}
use Rattle.geo_terms.specs.Trees.{Tree, division, parameter_leaf}
use Rattle.geo_program.specs.declared.commands.Command.{Command}
use Rattle.geo_program.specs.declared.commands.Command.TheVariants.{Pratio, Tratio, Online, Lratio, Oncircle, Inverse, Weights}
use Rattle.geo_lowering.specs.declared.step_numbers.Fractions.{Fractions}
use Rattle.geo_lowering.specs.Lowering.{Layout, renamed, one_tree, half_tree, two_thirds_tree, square_tree}

-- the index stands in the store, and unfolds to this tree
pub record IsTerm (nodes : Store) (e : Tree) (id : TermId) : Type 0 where
  pub stored : id.0 < length nodes
  pub tree : tree_of nodes id ≡ e

-- these are the numbers 1, 1/2 and 2/3
pub record AreFractions (nodes : Store) (f : Fractions) : Type 0 where
  pub one : IsTerm nodes one_tree f.one
  pub half : IsTerm nodes half_tree f.half
  pub two_thirds : IsTerm nodes two_thirds_tree f.two_thirds

-- the number of a step of the command that depends on the command; 1 where all are 1, 1/2 and 2/3
abbrev pub own_number : Layout → Store → ℕ → Command → Tree
own_number l nodes m (Pratio w u v r) = renamed l (tree_of nodes r)
own_number l nodes m (Tratio u v r) = renamed l (tree_of nodes r)
own_number l nodes m (Lratio a b r) = renamed l (tree_of nodes r)
own_number l nodes m (Weights a b c r s) = renamed l (tree_of nodes r)
own_number l nodes m (Online a b) = parameter_leaf (record { 0 = m })
own_number l nodes m (Oncircle o a) = parameter_leaf (record { 0 = m })
own_number l nodes m (Inverse p o a) = division (square_tree (l.point o.0) (l.point a.0)) (square_tree (l.point o.0) (l.point p.0))
own_number l nodes m _ = one_tree

-- the second number of `weights`, and else 1
abbrev pub second_number_tree : Layout → Store → Command → Tree
second_number_tree l nodes (Weights a b c r s) = renamed l (tree_of nodes s)
second_number_tree l nodes _ = one_tree
