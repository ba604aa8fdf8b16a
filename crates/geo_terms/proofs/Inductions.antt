-- Induction over a store: what holds of each node once it holds of the node's parts holds of all indices.
use Rattle.std.proofs.Common.{◌≡◌, ℕ, ◌<◌, length, get_or, slice_get, Some, arith}
use Rattle.std.proofs.lemmas.Option.{slice_get-get_or, slice_get_within}
use Rattle.geo_points.specs.declared.ids.TermId.{TermId}
use Rattle.geo_terms.specs.declared.nodes.Node.{Node}
use Rattle.geo_terms.specs.declared.nodes.Node.TheVariants.{Int, Param, S, P, R, Neg, Add, Sub, Mul, Div}
use Rattle.geo_terms.specs.Stores.{Store, HasChildrenBelow, IsStore}
use Rattle.std.specs.Prelude.{pos}

-- Q holds of the parts of the node
abbrev pub HoldsOfParts : (TermId → Type 0) → Node → Type 0
HoldsOfParts Q (Int n) = Unit {0}
HoldsOfParts Q (Param t) = Unit {0}
HoldsOfParts Q (S a b c) = Unit {0}
HoldsOfParts Q (P a b c) = Unit {0}
HoldsOfParts Q (R a b c d) = Unit {0}
HoldsOfParts Q (Neg e) = Q e
HoldsOfParts Q (Add e f) = Q e × Q f
HoldsOfParts Q (Sub e f) = Q e × Q f
HoldsOfParts Q (Mul e f) = Q e × Q f
HoldsOfParts Q (Div e f) = Q e × Q f

-- what holds below an index holds of parts that stand below it
pub holds_of_parts : (Q : TermId → Type 0) (k : ℕ) (node : Node) → HasChildrenBelow k node → ((id : TermId) → id.0 < k → Q id) → HoldsOfParts Q node
holds_of_parts Q k (Int n) below holds = tt
holds_of_parts Q k (Param t) below holds = tt
holds_of_parts Q k (S a b c) below holds = tt
holds_of_parts Q k (P a b c) below holds = tt
holds_of_parts Q k (R a b c d) below holds = tt
holds_of_parts Q k (Neg e) below holds = holds e below
holds_of_parts Q k (Add e f) below holds = (holds e below.0, holds f below.1)
holds_of_parts Q k (Sub e f) below holds = (holds e below.0, holds f below.1)
holds_of_parts Q k (Mul e f) below holds = (holds e below.0, holds f below.1)
holds_of_parts Q k (Div e f) below holds = (holds e below.0, holds f below.1)

-- at each index below the length stands a node
pub node_at : (nodes : Store) (k : ℕ) → k < length nodes → (node : Node) × (slice_get nodes k ≡ Some node)
node_at nodes k within = (get_or nodes k (Int (pos 0)), slice_get-get_or nodes k (Int (pos 0)) within)

module _ (nodes : Store) (h : IsStore nodes) where
  -- the parts of a node stand in the store
  pub parts_within : (k : ℕ) (node : Node) → slice_get nodes k ≡ Some node → HoldsOfParts (λ e. e.0 < length nodes) node
  parts_within k node at =
      let within : k < length nodes = slice_get_within nodes k node at in
      holds_of_parts (λ e. e.0 < length nodes) k node (h.children k node at) (λ e below. omega arith)
