-- The terms of a program, renamed one after another.
use Rattle.std.specs.Prelude.{◌≡◌, ℕ, ◌<◌, List, length, slice_index_or}
use Rattle.geo_points.specs.declared.ids.TermId.{TermId}
use Rattle.geo_terms.specs.declared.nodes.Node.{Node}
use Rattle.geo_terms.specs.declared.nodes.Node.TheVariants.{Int, Param, S, P, R, Neg, Add, Sub, Mul, Div}
use Rattle.geo_terms.specs.Stores.{Store, tree_of}
use Rattle.geo_lowering.specs.Lowering.{Layout, renamed}

-- the index of a renamed term
abbrev pub item_at : List TermId → TermId → TermId
item_at items e = slice_index_or items e.0 (record { 0 = 0 })

-- a node, renamed, over the renamed terms
abbrev pub renamed_node : Layout → List TermId → Node → Node
renamed_node l items (Int n) = Int n
renamed_node l items (Param t) = Param (record { 0 = l.param t.0 })
renamed_node l items (S a b c) = S (record { 0 = l.point a.0 }) (record { 0 = l.point b.0 }) (record { 0 = l.point c.0 })
renamed_node l items (P a b c) = P (record { 0 = l.point a.0 }) (record { 0 = l.point b.0 }) (record { 0 = l.point c.0 })
renamed_node l items (R a b c d) =
    R (record { 0 = l.point a.0 }) (record { 0 = l.point b.0 }) (record { 0 = l.point c.0 }) (record { 0 = l.point d.0 })
renamed_node l items (Neg e) = Neg (item_at items e)
renamed_node l items (Add e f) = Add (item_at items e) (item_at items f)
renamed_node l items (Sub e f) = Sub (item_at items e) (item_at items f)
renamed_node l items (Mul e f) = Mul (item_at items e) (item_at items f)
renamed_node l items (Div e f) = Div (item_at items e) (item_at items f)

-- the items are the first terms of a store, renamed, in another store
pub record AreRenamed (l : Layout) (terms nodes : Store) (items : List TermId) : Type 0 where
  pub stored : (k : ℕ) → k < length items → (slice_index_or items k (record { 0 = 0 })).0 < length nodes
  pub trees : (k : ℕ) → k < length items
      → tree_of nodes (slice_index_or items k (record { 0 = 0 })) ≡ renamed l (tree_of terms (record { 0 = k }))
