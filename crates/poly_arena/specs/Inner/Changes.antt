-- What a step changes, and where a chain is live in the table.
use Rattle.std.specs.Prelude.{◌≡◌, ℕ, ◌+◌, ◌<◌, ◌≤◌, ℤ, ◌*ℤ◌, Option, Some, None, List, slice_get, slice_set, [], ◌∷◌, ◌++◌, length}
use Rattle.poly_arena.specs.declared.nodes.Node.{Node}
use Rattle.poly_arena.specs.declared.nodes.Free.{Free}
use Rattle.poly_arena.specs.declared.nodes.Slot.{Slot}
use Rattle.poly_arena.specs.declared.nodes.Slot.TheVariants.{Live}
use Rattle.poly_arena.specs.Nodes.{how_often, node_at, places}

-- a chain is live at that number, and begins at `first`
abbrev pub IsLiveSlot : List Slot → ℕ → Type 0
IsLiveSlot slots number = (first : Option ℕ) × (slice_get slots number ≡ Some (Live first))

-- the nodes with the node i linked behind the last one of a chain, where it has one
abbrev pub linked : List Node → Option ℕ → ℕ → List Node
linked nodes None i = nodes
linked nodes (Some l) i = slice_set nodes l (record (node_at nodes l) { next = Some i })

-- the first node of the chain then
abbrev pub first_or : Option ℕ → Option ℕ → ℕ → Option ℕ
first_or None first i = Some i
first_or (Some l) first i = first

-- the nodes with one put before the free chain, where there is one to put
abbrev pub released : List Node → Option ℕ → Option ℕ → List Node
released nodes free None = nodes
released nodes free (Some i) = slice_set nodes i (record (node_at nodes i) { next = free })

-- the free chain then
abbrev pub released_free : Free → Option ℕ → Free
released_free free None = free
released_free free (Some i) = record { first = Some i; count = free.count + 1 }

-- the last of the list
abbrev pub IsLast : ℕ → List ℕ → Type 0
IsLast last is = (front : List ℕ) × (is ≡ front ++ last ∷ [])

-- the chain at `first` stands before the free chain: its last node, where it has one, is linked to what was free
abbrev pub ReleasesChain : List Node → List Node → Option ℕ → Free → Free → Type 0
ReleasesChain old new None free new_free = (new ≡ old) × (new_free ≡ free)
ReleasesChain old new (Some i) free new_free = (last : ℕ) × IsLast last (places old (Some i))
    × (new ≡ slice_set old last (record (node_at old last) { next = free.first }))
    × (new_free ≡ record { first = Some i; count = free.count + length (places old (Some i)) })

-- no node stands twice
abbrev pub AreOnce : List ℕ → Type 0
AreOnce is = (i : ℕ) → how_often i is ≤ 1

-- a node with the key added, and its coefficient multiplied
abbrev pub scaled_node : ℕ → ℤ → Node → Node
scaled_node key coef node = record { key = key + node.key; next = node.next; coef = coef *ℤ node.coef }

-- the nodes of these places are scaled, and the others are the same
pub record ScalesNodes (old new : List Node) (is : List ℕ) (key : ℕ) (coef : ℤ) : Type 0 where
  pub size : length new ≡ length old
  pub kept : (j : ℕ) → how_often j is ≡ 0 → node_at new j ≡ node_at old j
  pub scales : (j : ℕ) → 0 < how_often j is → node_at new j ≡ scaled_node key coef (node_at old j)
