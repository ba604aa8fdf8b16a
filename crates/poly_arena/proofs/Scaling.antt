-- A whole chain scaled in its place.
use Rattle.std.proofs.Common.{◌≡◌, ℕ, zero, suc, ◌+◌, ◌<◌, ◌≤◌, ◌^◌, ℤ, ◌*ℤ◌, unsigned_abs, Some, None, List, [], ◌∷◌, ◌++◌, get_or, length, map, slice_get, append_assoc, refl, sym, ap, ap₂, subst, ◌∙◌, arith}
use Rattle.std.specs.Prelude.{Option, pos}
use Rattle.std.proofs.Math.ListN.{set}
use Rattle.std.proofs.lemmas.List.{append-nil, get_or-set_other, length-append, length-set}
use Rattle.std.proofs.lemmas.Option.{slice_get_within}
use Rattle.poly_arena.specs.declared.nodes.Node.{Node}
use Rattle.poly_arena.specs.declared.nodes.Slot.{Slot}
use Rattle.poly_arena.specs.declared.nodes.Slot.TheVariants.{Live, Vacant}
use Rattle.sparse_lists.specs.Coefficients.{Pairs, scaled}
use Rattle.poly_arena.specs.Chains.{CanScale, Updates}
use Rattle.poly_arena.specs.Nodes.{IsArena, IsPath, IsShared, chains_of, how_often, node_at, pair_at, pairs, places}
use Rattle.poly_arena.specs.Inner.Changes.{AreOnce, ScalesNodes, scaled_node}
use Rattle.poly_arena.proofs.Paths.{IsPath-agree, how_often-append, how_often-head, how_often-other, path-within, places-path, walk-length}
use Rattle.poly_arena.proofs.Sharing.{ChangedWithin, IsShared-change, IsShared-put, IsShared-take, lists-change, once-le, same_or_not}
use Rattle.poly_arena.proofs.Updating.{Begins, arena, begins, ends, node-set, node_is, set-set, slot_at-set, updated}

module _ (key : ℕ) (coef : ℤ) where
  -- THE WALK

  -- the node at a place can be scaled
  can-at : (nodes : List Node) (front : List ℕ) (i : ℕ) (behind : List ℕ) → CanScale key coef (map (pair_at nodes) (front ++ i ∷ behind))
      → (key + (node_at nodes i).key < 2 ^ 64) × (unsigned_abs (coef *ℤ (node_at nodes i).coef) < 2 ^ 127)
  can-at nodes [] i behind can = (can.0, can.1)
  can-at nodes (j ∷ front) i behind can = can-at nodes front i behind can.2

  -- the nodes before `place` are scaled
  pub record Scales (old nodes : List Node) (first place : Option ℕ) (count : ℕ) : Type 0 where
    pub front : List ℕ
    pub behind : List ℕ
    pub parts : places old first ≡ front ++ behind
    pub path : IsPath old place behind
    pub counted : count ≡ length front
    pub scales : ScalesNodes old nodes front key coef

  pub scales-start : (nodes : List Node) (first : Option ℕ) → IsPath nodes first (places nodes first) → Scales nodes nodes first first 0
  scales-start nodes first path = record {
    front = [];
    behind = places nodes first;
    parts = refl;
    path = path;
    counted = refl;
    scales = record { size = refl; kept = λ j none. refl; scales = λ j often. absurd (omega (arith, often)) };
  }

  pub scales-few : {old nodes : List Node} {first place : Option ℕ} {count : ℕ} → Scales old nodes first place count → count ≤ length old
  scales-few {old} {nodes} {first} h =
      omega (arith, h.counted, ap length h.parts, length-append h.front h.behind, walk-length (length old) old first)

  module _ (old nodes : List Node) (first place : Option ℕ) (count i : ℕ) (e : place ≡ Some i) (once : AreOnce (places old first)) (h : Scales old nodes first place count) where
    abbrev b : Begins old i h.behind
    b = begins old place i h.behind e h.path

    parts : places old first ≡ h.front ++ i ∷ b.rest
    parts = h.parts ∙ ap (λ js. h.front ++ js) b.parts

    absent : how_often i h.front ≡ 0
    absent = omega (arith, once i, ap (how_often i) parts, how_often-append i h.front (i ∷ b.rest), how_often-head i b.rest)

    same : node_at nodes i ≡ node_at old i
    same = h.scales.kept i absent

    pub scales-within : i < length nodes
    scales-within = omega (arith, b.within, h.scales.size)

    module _ (node : Node) (node-is : node ≡ get_or nodes i node) where
      here : node ≡ node_at old i
      here = node_is nodes i node scales-within node-is ∙ same

      pub scales-can : CanScale key coef (pairs old first) → (key + node.key < 2 ^ 64) × (unsigned_abs (coef *ℤ node.coef) < 2 ^ 127)
      scales-can can =
          subst (λ (n : Node). (key + n.key < 2 ^ 64) × (unsigned_abs (coef *ℤ n.coef) < 2 ^ 127)) (sym here)
          (can-at old h.front i b.rest (subst (λ js. CanScale key coef (map (pair_at old) js)) parts can))

      module _ (new : Node) (new-is : new ≡ scaled_node key coef node) where
        changed : new ≡ scaled_node key coef (node_at old i)
        changed = new-is ∙ ap (scaled_node key coef) here

        sizes : (j : ℕ) → how_often j (h.front ++ i ∷ []) ≡ how_often j h.front + how_often j (i ∷ [])
        sizes j = how_often-append j h.front (i ∷ [])

        -- the other nodes are not changed
        other : (j : ℕ) → (j ≡ i → ⊥) → node_at (set nodes i new) j ≡ node_at nodes j
        other j differ = get_or-set_other nodes i j new (record { key = 0; coef = pos 0; next = None }) differ

        pub scales-step : Scales old (set nodes i new) first new.next (count + 1)
        scales-step = record {
          front = h.front ++ i ∷ [];
          behind = b.rest;
          parts = parts ∙ sym (append_assoc h.front (i ∷ []) b.rest);
          path = subst (λ (n : Node). IsPath old n.next b.rest) (sym changed) b.path;
          counted = omega (arith, h.counted, length-append h.front (i ∷ []));
          scales = record {
            size = length-set nodes i new ∙ h.scales.size;
            kept = λ j none.
                other j (λ e. absurd (omega (arith, none, sizes j, ap (λ k. how_often k (i ∷ [])) e, how_often-head i [])))
                ∙ h.scales.kept j (omega (arith, none, sizes j));
            scales = λ j often.
                same_or_not j i (node_at (set nodes i new) j ≡ scaled_node key coef (node_at old j))
                (λ e. ap (node_at (set nodes i new)) e ∙ node-set nodes i new scales-within ∙ changed
                ∙ ap (λ k. scaled_node key coef (node_at old k)) (sym e))
                (λ differ. other j differ ∙ h.scales.scales j (omega (arith, often, sizes j, how_often-other i j [] differ)));
          };
        }

  pub scales-end : (old nodes : List Node) (first place : Option ℕ) (count : ℕ) → place ≡ None → Scales old nodes first place count
      → (count ≡ length (places old first)) × ScalesNodes old nodes (places old first) key coef
  scales-end old nodes first place count e h =
      let none : h.behind ≡ [] = ends old h.behind (subst (λ (f : Option ℕ). IsPath old f h.behind) e h.path) in
      let all : places old first ≡ h.front = h.parts ∙ ap (λ js. h.front ++ js) none ∙ append-nil h.front in
      (h.counted ∙ ap length (sym all), subst (λ js. ScalesNodes old nodes js key coef) (sym all) h.scales)

-- THE ARENA

set-same : {X : Type 0} (xs : List X) (n : ℕ) (x : X) → slice_get xs n ≡ Some x → set xs n x ≡ xs
set-same [] n x at = refl
set-same (y ∷ xs) zero x at = let same : y ≡ x = cc in ap (λ z. z ∷ xs) (sym same)
set-same (y ∷ xs) (suc n) x at = ap (λ ys. y ∷ ys) (set-same xs n x at)

module _ (nodes : List Node) (slots : List Slot) (free : Option ℕ) (count n : ℕ) (first : Option ℕ)
    (at : slice_get slots n ≡ Some (Live first)) (h : IsArena nodes slots free count) where
  abbrev without : List Slot
  without = set slots n (Vacant 0)

  abbrev ps : List ℕ
  ps = places nodes first

  abbrev fs : List ℕ
  fs = places nodes free

  taken : IsShared nodes without (ps ++ fs)
  taken = IsShared-take nodes slots fs n 0 first at h.shared

  pub chain-path : IsPath nodes first ps
  chain-path = h.shared.ends n first at

  pub chain-once : AreOnce ps
  chain-once i = by (how_often i ps) refl
    where
      by : (k : ℕ) → how_often i ps ≡ k → k ≤ 1
      by zero e = omega arith
      by (suc k) e =
          omega (arith, e, once-le nodes without (ps ++ fs) i taken (path-within nodes first ps i chain-path (omega (arith, e))), how_often-append i ps fs)

  -- the nodes of the chain are not free
  apart : (j : ℕ) → 0 < how_often j fs → how_often j ps ≡ 0
  apart j often =
      omega (arith, often, once-le nodes without (ps ++ fs) j taken (path-within nodes free fs j h.free_ends often), how_often-append j ps fs)

  module _ (new : List Node) (key : ℕ) (coef : ℤ) (scales : ScalesNodes nodes new ps key coef) where
    path-scaled : (f : Option ℕ) (is : List ℕ) → ((j : ℕ) → 0 < how_often j is → node_at new j ≡ scaled_node key coef (node_at nodes j))
        → IsPath nodes f is → IsPath new f is
    path-scaled f [] same path = path
    path-scaled f (i ∷ is) same path =
        let here : node_at new i ≡ scaled_node key coef (node_at nodes i) = same i (omega (arith, how_often-head i is)) in (
          path.0,
          omega (arith, path.1, scales.size),
          subst (λ (m : Node). IsPath new m.next is) (sym here) (path-scaled (node_at nodes i).next is (λ j often. same j (omega arith)) path.2),
        )

    list-scaled : (is : List ℕ) → ((j : ℕ) → 0 < how_often j is → node_at new j ≡ scaled_node key coef (node_at nodes j))
        → map (pair_at new) is ≡ scaled key coef (map (pair_at nodes) is)
    list-scaled [] same = refl
    list-scaled (i ∷ is) same =
        ap₂ (λ (m : Node) (rest : Pairs). (m.key, m.coef) ∷ rest) (same i (omega (arith, how_often-head i is))) (list-scaled is (λ j often. same j (omega arith)))

    new_path : IsPath new first ps
    new_path = path-scaled first ps scales.scales chain-path

    free_path : IsPath new free fs
    free_path = IsPath-agree nodes new free fs (omega (arith, scales.size)) (λ j often. scales.kept j (apart j often)) h.free_ends

    change : ChangedWithin nodes new (ps ++ fs)
    change = record { size = scales.size; kept = λ j none. scales.kept j (omega (arith, none, how_often-append j ps fs)) }

    shared : IsShared new without (ps ++ fs)
    shared = IsShared-change nodes new without (ps ++ fs) taken change (ps ++ fs) (record { often = λ j. refl; size = refl })

    within : n < length slots
    within = slice_get_within slots n (Live first) at

    put : IsShared new slots fs
    put =
        subst (λ ss. IsShared new ss fs) (set-set slots n (Vacant 0) (Live first) ∙ set-same slots n (Live first) at)
        (IsShared-put new without ps fs n 0 first (slot_at-set slots n (Vacant 0) within) new_path shared)

    pub IsArena-scaled : IsArena new slots free count
    IsArena-scaled = arena new slots free count fs free_path h.counted put

    pub Updates-scaled : (c d : ℕ) → Updates (chains_of nodes slots c) (chains_of new slots d) n (Some (scaled key coef (pairs nodes first)))
    Updates-scaled c d =
        subst (λ (ss : List Slot). Updates (chains_of nodes slots c) (chains_of new ss d) n (Some (scaled key coef (pairs nodes first)))) (set-same slots n (Live first) at)
        (subst (λ (xs : Pairs). Updates (chains_of nodes slots c) (chains_of new (set slots n (Live first)) d) n (Some xs)) list
        (updated nodes new slots n (Vacant 0) (Live first) c d within (lists-change nodes new without (ps ++ fs) taken change)))
      where
        list : pairs new first ≡ scaled key coef (pairs nodes first)
        list =
            ap (map (pair_at new)) (places-path new first ps new_path (omega (arith, shared.all, length-append ps fs))) ∙ list-scaled ps scales.scales
