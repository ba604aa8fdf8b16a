-- A node interned in a store: the store that it gives, and the trees in it.
use Rattle.std.proofs.Common.{◌≡◌, ℕ, zero, suc, ◌+◌, ◌<◌, ◌≤◌, Bool, true, false, ◌⊎◌, inl, inr, [], ◌∷◌, ◌++◌, if◌then◌else◌, length, slice_get, Some, refl, sym, ap, subst, ◌∙◌, true≢false, arith}
use Rattle.std.specs.Prelude.{Contains}
use Rattle.std.specs.List.{list_any}
use Rattle.std.proofs.lemmas.List.{length_push}
use Rattle.std.proofs.lemmas.List.Folds.{list_any_at}
use Rattle.std.proofs.lemmas.Option.{get_or_from_slice_get, slice_get_within}
use Rattle.first_seen.specs.Keys.{with_key}
use Rattle.first_seen.proofs.Members.{Contains-list_any}
use Rattle.geo_points.specs.declared.ids.TermId.{TermId}
use Rattle.geo_terms.specs.declared.nodes.Node.{Node}
use Rattle.geo_terms.specs.Stores.{Store, HasChildrenBelow, HasShortInteger, IsStore, node_tree, trees_of, tree_of}
use Rattle.geo_terms.proofs.Trees.{tree_of-append, tree_of-node, tree_of-push}

-- a node at an index is a node of the store
pub Contains-slice_get : (nodes : Store) (k : ℕ) (node : Node) → slice_get nodes k ≡ Some node → Contains nodes node
Contains-slice_get nodes k node at = (k, slice_get_within nodes k node at, get_or_from_slice_get nodes k node node at)

-- a node of the longer store is one of the shorter store, or the last
pub push_cases : (nodes : Store) (last : Node) (k : ℕ) (node : Node) → slice_get (nodes ++ last ∷ []) k ≡ Some node
    → (slice_get nodes k ≡ Some node) ⊎ ((k ≡ length nodes) × (node ≡ last))
push_cases [] last zero node at = inr (refl, cc)
push_cases [] last (suc k) node at = absurd (cc)
push_cases (first ∷ nodes) last zero node at = inl at
push_cases (first ∷ nodes) last (suc k) node at =
    elim (push_cases nodes last k node at) [ inl there ↦ inl there | inr end ↦ inr (ap suc end.0, end.1) ]

-- a node that is new, with its parts there
pub record IsNew (nodes : Store) (node : Node) : Type 0 where
  pub children : HasChildrenBelow (length nodes) node
  pub integer : HasShortInteger node
  pub room : length nodes < 4294967295
  pub unknown : Contains nodes node → ⊥

-- a store stays one where a new node is added
pub IsStore-push : (nodes : Store) (last : Node) → IsStore nodes → IsNew nodes last → IsStore (nodes ++ last ∷ [])
IsStore-push nodes last h new = record { once = once; children = children; integers = integers; few = omega (arith, length_push nodes last, new.room) }
  where
    differs : (k : ℕ) (node : Node) → slice_get nodes k ≡ Some node → node ≡ last → ⊥
    differs k node at same = new.unknown (subst (Contains nodes) same (Contains-slice_get nodes k node at))

    once : (i j : ℕ) (node : Node) → slice_get (nodes ++ last ∷ []) i ≡ Some node → slice_get (nodes ++ last ∷ []) j ≡ Some node → i ≡ j
    once i j node i_at j_at =
        elim (push_cases nodes last i node i_at) [
          | inl i_there ↦ elim (push_cases nodes last j node j_at) [
            | inl j_there ↦ h.once i j node i_there j_there
            | inr j_end ↦ absurd (differs i node i_there j_end.1)
          ]
          | inr i_end ↦ elim (push_cases nodes last j node j_at) [
            | inl j_there ↦ absurd (differs j node j_there i_end.1)
            | inr j_end ↦ i_end.0 ∙ sym j_end.0
          ]
        ]

    children : (k : ℕ) (node : Node) → slice_get (nodes ++ last ∷ []) k ≡ Some node → HasChildrenBelow k node
    children k node at =
        elim (push_cases nodes last k node at) [
          | inl there ↦ h.children k node there
          | inr end ↦ subst (HasChildrenBelow k) (sym end.1) (subst (λ n. HasChildrenBelow n last) (sym end.0) new.children)
        ]

    integers : (k : ℕ) (node : Node) → slice_get (nodes ++ last ∷ []) k ≡ Some node → HasShortInteger node
    integers k node at =
        elim (push_cases nodes last k node at) [
          | inl there ↦ h.integers k node there
          | inr end ↦ subst HasShortInteger (sym end.1) new.integer
        ]

-- INTERNING

-- the node is there and the store stays, or it is new and goes last
pub data IsInterned (old : Store) (node : Node) : Store → Type 0 where
  known : Contains old node → IsInterned old node old
  added : (Contains old node → ⊥) → IsInterned old node (old ++ node ∷ [])

-- by a comparison that is equality
module _ (eq : Node → Node → Bool) (same : (x y : Node) → eq x y ≡ true → x ≡ y) (self : (x : Node) → eq x x ≡ true) where
  absent : (nodes : Store) (node : Node) → list_any (eq node) nodes ≡ false → Contains nodes node → ⊥
  absent nodes node none found =
      true≢false (sym (list_any_at (eq node) nodes found.0 node found.1 (ap (eq node) found.2 ∙ self node)) ∙ none)

  pub interned : (old : Store) (node : Node) → IsInterned old node (with_key eq old node)
  interned old node = by (list_any (eq node) old) refl
    where
      by : (found : Bool) → list_any (eq node) old ≡ found → IsInterned old node (if found then old else old ++ node ∷ [])
      by true e = known (Contains-list_any eq same old node e)
      by false e = added (absent old node e)

pub IsStore-interned : {old new : Store} {node : Node} → IsInterned old node new
    → IsStore old → HasChildrenBelow (length old) node → HasShortInteger node → length old < 4294967295 → IsStore new
IsStore-interned (known found) h children integer room = h
IsStore-interned {old} {new} {node} (added unknown) h children integer room =
    IsStore-push old node h (record { children = children; integer = integer; room = room; unknown = unknown })

-- the index of the node has its tree
pub tree_of-interned : {old new : Store} {node : Node} → IsInterned old node new → IsStore old
    → (id : TermId) → slice_get new id.0 ≡ Some node → tree_of new id ≡ node_tree (trees_of old) node
tree_of-interned {old} {new} {node} (known found) h id at = tree_of-node old id node h at
tree_of-interned {old} {new} {node} (added unknown) h id at =
    elim (push_cases old node id.0 node at) [
      | inl there ↦ absurd (unknown (Contains-slice_get old id.0 node there))
      | inr end ↦ tree_of-push old node id end.0
    ]

-- all other trees stay
pub others-interned : {old new : Store} {node : Node} → IsInterned old node new
    → (id : TermId) → id.0 < length old → tree_of new id ≡ tree_of old id
others-interned (known found) id within = refl
others-interned {old} {new} {node} (added unknown) id within = tree_of-append old (node ∷ []) id within

-- a node that was not there goes last
pub pushed-interned : {old new : Store} {node : Node} → IsInterned old node new → (Contains old node → ⊥) → new ≡ old ++ node ∷ []
pushed-interned (known found) unknown = absurd (unknown found)
pushed-interned (added _) unknown = refl

-- the store is no shorter, and at most one node longer
pub longer-interned : {old new : Store} {node : Node} → IsInterned old node new → length old ≤ length new
longer-interned (known found) = omega arith
longer-interned {old} {new} {node} (added unknown) = omega (arith, length_push old node)

pub one_more-interned : {old new : Store} {node : Node} → IsInterned old node new → length new ≤ length old + 1
one_more-interned (known found) = omega arith
one_more-interned {old} {new} {node} (added unknown) = omega (arith, length_push old node)
