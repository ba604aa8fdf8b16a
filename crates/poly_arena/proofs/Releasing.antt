-- A whole chain put before the free chain.
use Rattle.std.proofs.Common.{◌≡◌, ℕ, ◌+◌, ◌<◌, ◌≤◌, Some, None, List, [], ◌∷◌, ◌++◌, length, map, slice_get, append_assoc, refl, sym, ap, subst, ◌∙◌, arith}
use Rattle.std.specs.Prelude.{Option}
use Rattle.std.proofs.Math.ListN.{set}
use Rattle.std.proofs.lemmas.List.{length-append, length-set}
use Rattle.poly_arena.specs.declared.nodes.Node.{Node}
use Rattle.poly_arena.specs.declared.nodes.Free.{Free}
use Rattle.poly_arena.specs.declared.nodes.Slot.{Slot}
use Rattle.poly_arena.specs.declared.nodes.Slot.TheVariants.{Live, Vacant}
use Rattle.poly_arena.specs.Nodes.{IsArena, IsPath, how_often, node_at, pairs, places, slot_list}
use Rattle.poly_arena.specs.Inner.Changes.{IsLast, ReleasesChain}
use Rattle.poly_arena.proofs.Paths.{how_often-append, how_often-head, path-within, places-path, walk-length}
use Rattle.poly_arena.proofs.Sharing.{once-le}
use Rattle.poly_arena.proofs.Updating.{GivesBack, agree-set, begins, ends, gives_back-end, gives_back-start, in_hand-set, node-set, path-set}

-- THE LAST NODE

-- a walk along the chain at `first` has come to the node `last`
pub record Ends (nodes : List Node) (first last count : ℕ) : Type 0 where
  pub front : List ℕ
  pub behind : List ℕ
  pub parts : places nodes (Some first) ≡ front ++ last ∷ behind
  pub path : IsPath nodes (Some last) (last ∷ behind)
  pub counted : count ≡ length front + 1

pub ends-start : (nodes : List Node) (first : ℕ) → IsPath nodes (Some first) (places nodes (Some first)) → Ends nodes first first 1
ends-start nodes first path =
    let b = begins nodes (Some first) first (places nodes (Some first)) refl path in
    record { front = []; behind = b.rest; parts = b.parts; path = (refl, b.within, b.path); counted = refl }

pub ends-within : {nodes : List Node} {first last count : ℕ} → Ends nodes first last count → last < length nodes
ends-within h = h.path.1

pub ends-few : {nodes : List Node} {first last count : ℕ} → Ends nodes first last count → count ≤ length nodes
ends-few {nodes} {first} {last} h =
    omega (arith, h.counted, ap length h.parts, length-append h.front (last ∷ h.behind), walk-length (length nodes) nodes (Some first))

pub ends-step : (nodes : List Node) (first last count i : ℕ) → (node_at nodes last).next ≡ Some i → Ends nodes first last count → Ends nodes first i (count + 1)
ends-step nodes first last count i e h =
    let b = begins nodes (node_at nodes last).next i h.behind e h.path.2 in
    record {
      front = h.front ++ last ∷ [];
      behind = b.rest;
      parts = h.parts ∙ ap (λ js. h.front ++ last ∷ js) b.parts ∙ sym (append_assoc h.front (last ∷ []) (i ∷ b.rest));
      path = (refl, b.within, b.path);
      counted = omega (arith, h.counted, length-append h.front (last ∷ []));
    }

pub ends-last : (nodes : List Node) (first last count : ℕ) → (node_at nodes last).next ≡ None → Ends nodes first last count
    → IsLast last (places nodes (Some first)) × (count ≡ length (places nodes (Some first)))
ends-last nodes first last count e h =
    let none : h.behind ≡ [] = ends nodes h.behind (subst (λ (f : Option ℕ). IsPath nodes f h.behind) e h.path.2) in
    let parts : places nodes (Some first) ≡ h.front ++ last ∷ [] = h.parts ∙ ap (λ js. h.front ++ last ∷ js) none in
    ((h.front, parts), omega (arith, h.counted, ap length parts, length-append h.front (last ∷ [])))

pub last-within : (nodes : List Node) (first : Option ℕ) (i last : ℕ) → first ≡ Some i → IsLast last (places nodes (Some i))
    → IsPath nodes first (places nodes first) → last < length nodes
last-within nodes first i last e end path =
    path-within nodes (Some i) (places nodes (Some i)) last (subst (λ (f : Option ℕ). IsPath nodes f (places nodes f)) e path)
    (omega (arith, ap (how_often last) end.1, how_often-append last end.0 (last ∷ []), how_often-head last []))

-- THE FREE CHAIN

-- the last node of a path linked to another path
path-joined : (nodes : List Node) (first free : Option ℕ) (front : List ℕ) (last : ℕ) (node : Node) (fs : List ℕ) → node.next ≡ free
    → how_often last front ≡ 0 → IsPath nodes first (front ++ last ∷ []) → IsPath (set nodes last node) free fs
    → IsPath (set nodes last node) first (front ++ last ∷ fs)
path-joined nodes first free [] last node fs e absent path rest = (
  path.0,
  omega (arith, path.1, length-set nodes last node),
  subst (λ (f : Option ℕ). IsPath (set nodes last node) f fs) (sym (ap (λ (m : Node). m.next) (node-set nodes last node path.1) ∙ e)) rest,
)
path-joined nodes first free (j ∷ front) last node fs e absent path rest =
    let parts : how_often last ((j ∷ []) ++ front) ≡ how_often last (j ∷ []) + how_often last front = how_often-append last (j ∷ []) front in
    let alone : how_often last (j ∷ []) ≡ 0 = omega (arith, parts, absent) in
    let kept : node_at (set nodes last node) j ≡ node_at nodes j = agree-set nodes (j ∷ []) last node alone j (omega (arith, how_often-head j [])) in (
      path.0,
      omega (arith, path.1, length-set nodes last node),
      subst (λ (m : Node). IsPath (set nodes last node) m.next (front ++ last ∷ fs)) (sym kept)
          (path-joined nodes (node_at nodes j).next free front last node fs e (omega (arith, parts, absent)) path.2 rest),
    )

-- all nodes in hand are free
gives_back-joined : (first_nodes nodes : List Node) (slots : List Slot) (i last count total : ℕ) (free : Option ℕ) (node : Node) → node.next ≡ free
    → IsLast last (places nodes (Some i)) → GivesBack first_nodes nodes slots (Some i) free count total
    → GivesBack first_nodes (set nodes last node) slots None (Some i) (count + length (places nodes (Some i))) total
gives_back-joined first_nodes nodes slots i last count total free node e end h = record {
  ps = [];
  fs = h.ps ++ h.fs;
  chain = refl;
  free = subst (IsPath (set nodes last node) (Some i)) (sym joined)
      (path-joined nodes (Some i) free end.0 last node h.fs e alone.0 (subst (IsPath nodes (Some i)) all h.chain)
      (path-set nodes h.fs last node free alone.1 h.free));
  hand = in_hand-set first_nodes nodes slots (h.ps ++ h.fs) (h.ps ++ h.fs) last node (omega (arith, sizes))
      (record { often = λ j. refl; size = refl }) h.hand;
  counted = omega (arith, h.counted, ap length same, length-append h.ps h.fs);
  whole = omega (arith, h.whole, length-append h.ps h.fs);
}
  where
    same : places nodes (Some i) ≡ h.ps
    same = places-path nodes (Some i) h.ps h.chain (omega (arith, h.hand.shared.all, length-append h.ps h.fs))

    all : h.ps ≡ end.0 ++ last ∷ []
    all = sym same ∙ end.1

    joined : h.ps ++ h.fs ≡ end.0 ++ last ∷ h.fs
    joined = ap (λ js. js ++ h.fs) all ∙ append_assoc end.0 (last ∷ []) h.fs

    sizes : how_often last (h.ps ++ h.fs) ≡ how_often last end.0 + (1 + how_often last h.fs)
    sizes = ap (how_often last) joined ∙ how_often-append last end.0 (last ∷ h.fs) ∙ ap (λ k. how_often last end.0 + k) (how_often-head last h.fs)

    within : last < length nodes
    within = path-within nodes (Some i) h.ps last h.chain
        (omega (arith, ap (how_often last) all, how_often-append last end.0 (last ∷ []), how_often-head last []))

    alone : (how_often last end.0 ≡ 0) × (how_often last h.fs ≡ 0)
    alone =
        let once = once-le nodes slots (h.ps ++ h.fs) last h.hand.shared within in
        (omega (arith, once, sizes), omega (arith, once, sizes))

-- what a release of the chain does
gives_back-all : (first_nodes nodes new : List Node) (slots : List Slot) (first : Option ℕ) (free new_free : Free) (total : ℕ)
    → ReleasesChain nodes new first free new_free → GivesBack first_nodes nodes slots first free.first free.count total
    → GivesBack first_nodes new slots None new_free.first new_free.count total
gives_back-all first_nodes nodes new slots None free new_free total r h =
    subst (λ (f : Free). GivesBack first_nodes new slots None f.first f.count total) (sym r.1)
    (subst (λ (ns : List Node). GivesBack first_nodes ns slots None free.first free.count total) (sym r.0) h)
gives_back-all first_nodes nodes new slots (Some i) free new_free total r h =
    let last = r.0 in
    subst (λ (f : Free). GivesBack first_nodes new slots None f.first f.count total) (sym r.3)
    (subst (λ (ns : List Node). GivesBack first_nodes ns slots None (Some i) (free.count + length (places nodes (Some i))) total) (sym r.2)
    (gives_back-joined first_nodes nodes slots i last free.count total free.first (record (node_at nodes last) { next = free.first }) refl r.1 h))

pub gives_back-room : {first_nodes nodes : List Node} {slots : List Slot} {first free : Option ℕ} {count total : ℕ}
    → GivesBack first_nodes nodes slots first free count total → count + length (places nodes first) ≤ length nodes
gives_back-room {first_nodes} {nodes} {slots} {first} h =
    omega (
      arith,
      h.hand.shared.all,
      length-append h.ps h.fs,
      h.counted,
      ap length (places-path nodes first h.ps h.chain (omega (arith, h.hand.shared.all, length-append h.ps h.fs))),
    )

-- a chain is spent
pub gives_back-whole : (nodes new : List Node) (slots : List Slot) (n hint : ℕ) (first : Option ℕ) (free new_free : Free) → slice_get slots n ≡ Some (Live first)
    → ReleasesChain nodes new first free new_free → IsArena nodes slots free.first free.count
    → IsArena new (set slots n (Vacant hint)) new_free.first new_free.count × (new_free.count ≡ free.count + length (pairs nodes first))
    × (map (slot_list new) (set slots n (Vacant hint)) ≡ map (slot_list nodes) (set slots n (Vacant hint)))
gives_back-whole nodes new slots n hint first free new_free at released h =
    gives_back-end nodes new (set slots n (Vacant hint)) new_free.first new_free.count (free.count + length (pairs nodes first))
    (gives_back-all nodes nodes new (set slots n (Vacant hint)) first free new_free (free.count + length (pairs nodes first)) released
    (gives_back-start nodes slots free.first free.count n hint first at h))
