-- Cutting the nodes that a term reaches out of a store, parts first.
use Rattle.std.proofs.Common.{◌≡◌, ℕ, ◌+◌, ◌<◌, ◌≤◌, ◌⊎◌, inl, inr, Bool, true, false, cond, Contains, HashMap, List, [], ◌∷◌, ◌++◌, drop, length, suc, sum_by}
use Rattle.std.proofs.Common.{slice_get, nat_eq, Some, Option, IsSome, unwrap_or, refl, sym, ap, ap₂, subst, ◌∙◌, arith}
use Rattle.std.proofs.lemmas.Bool.{cases_lt}
use Rattle.std.proofs.lemmas.Option.{slice_get_within}
use Rattle.std.specs.HashMap.{Updates}
use Rattle.geo_points.specs.declared.ids.TermId.{TermId}
use Rattle.geo_terms.specs.declared.nodes.Node.{Node}
use Rattle.geo_terms.specs.declared.nodes.Node.TheVariants.{Int, Param, S, P, R, Neg, Add, Sub, Mul, Div}
use Rattle.geo_terms.specs.Stores.{Store, HasChildrenBelow, IsStore, node_tree, tree_at, trees_of, tree_of}
use Rattle.geo_terms.specs.Trees.{Tree, negation, addition, subtraction, multiplication, division}
use Rattle.geo_terms.proofs.Trees.{tree_of-node}
use Rattle.fraction_poly.specs.Inner.Charges.{charge_below, own_charge, own_charge_at, range_sum}
use Rattle.fraction_poly.specs.Inner.Parts.{AreReached, CanMultiplyOut, DoAllFit, IsPart, StandsFrom, over_parts, place_at, place_in}
use Rattle.fraction_poly.proofs.OwnCharges.{sum_from}
use Rattle.fraction_poly.proofs.Places.{place_cases, slice_get-end}
use Rattle.fraction_poly.proofs.Ranges.{range_sum-le}

-- A NODE OVER OTHER PARTS
-- it has the same tree, where its parts have
pub over_parts-tree : (before after : List Tree) (f : TermId → TermId) (node : Node) → ((c : TermId) → IsPart node c → tree_at after (f c) ≡ tree_at before c)
    → node_tree after (over_parts f node) ≡ node_tree before node
over_parts-tree before after f (Int n) h = refl
over_parts-tree before after f (Param t) h = refl
over_parts-tree before after f (S x y z) h = refl
over_parts-tree before after f (P x y z) h = refl
over_parts-tree before after f (R x y z w) h = refl
over_parts-tree before after f (Neg e) h = ap negation (h e refl)
over_parts-tree before after f (Add e g) h = ap₂ addition (h e (inl refl)) (h g (inr refl))
over_parts-tree before after f (Sub e g) h = ap₂ subtraction (h e (inl refl)) (h g (inr refl))
over_parts-tree before after f (Mul e g) h = ap₂ multiplication (h e (inl refl)) (h g (inr refl))
over_parts-tree before after f (Div e g) h = ap₂ division (h e (inl refl)) (h g (inr refl))

-- its parts stand below k, where those do
pub over_parts-below : (k : ℕ) (f : TermId → TermId) (node : Node) → ((c : TermId) → IsPart node c → (f c).0 < k) → HasChildrenBelow k (over_parts f node)
over_parts-below k f (Int n) h = tt
over_parts-below k f (Param t) h = tt
over_parts-below k f (S x y z) h = tt
over_parts-below k f (P x y z) h = tt
over_parts-below k f (R x y z w) h = tt
over_parts-below k f (Neg e) h = h e refl
over_parts-below k f (Add e g) h = (h e (inl refl), h g (inr refl))
over_parts-below k f (Sub e g) h = (h e (inl refl), h g (inr refl))
over_parts-below k f (Mul e g) h = (h e (inl refl), h g (inr refl))
over_parts-below k f (Div e g) h = (h e (inl refl), h g (inr refl))

-- A MAP OF PLACES
eq_at : (a b : ℕ) → nat_eq a b ≡ true → a ≡ b
eq_at a b h = grind (arith, h)

module _ {S : Type 0} (c p : TermId) (old new : HashMap ℕ TermId S) (updates : Updates nat_eq old new c.0 (Some p)) where
  -- the index has its place
  pub place-new : place_at new c ≡ Some p
  place-new = updates.1

  -- what has a place is the index, or had that place
  pub place-cases : (d : TermId) → IsSome (place_at new d) → (c ≡ d) ⊎ (place_at new d ≡ place_at old d)
  place-cases d is = go (nat_eq c.0 d.0) refl
    where
      go : (b : Bool) → nat_eq c.0 d.0 ≡ b → (c ≡ d) ⊎ (place_at new d ≡ place_at old d)
      go true e = inl (λ i. record { 0 = eq_at c.0 d.0 e i })
      go false e = inr (updates.2 d.0 e)

  -- what had a place has one
  pub place-stays : (d : TermId) → IsSome (place_at old d) → IsSome (place_at new d)
  place-stays d is = go (nat_eq c.0 d.0) refl
    where
      go : (b : Bool) → nat_eq c.0 d.0 ≡ b → IsSome (place_at new d)
      go true e = subst IsSome (sym (updates.0 d.0 ∙ ap (λ b. cond b (Some p) (place_at old d)) e)) refl
      go false e = subst IsSome (sym (updates.2 d.0 e)) is

-- THE LOOP
-- the indices from the place k on are cut out
pub record IsCut {S : Type 0} (nodes : Store) (id : TermId) (order : List TermId) (k : ℕ) (places : HashMap ℕ TermId S) (cut : Store) : Type 0 where
  pub store : IsStore cut
  pub count : length cut + k ≤ length order
  pub placed : (c : TermId) → StandsFrom k order c → IsSome (place_at places c)
  pub stands : (c : TermId) → IsSome (place_at places c) → (place_in places c).0 < length cut
  pub tree : (c : TermId) → IsSome (place_at places c) → tree_of cut (place_in places c) ≡ tree_of nodes c
  pub fit : CanMultiplyOut (tree_of nodes id) → DoAllFit cut
  pub charges : charge_below cut (length cut) ≤ sum_by (λ c. own_charge_at nodes c.0) (drop k order)

-- what `intern` says
pub record IsInterned (old new : Store) (node : Node) (place : TermId) : Type 0 where
  pub at : slice_get new place.0 ≡ Some node
  pub tree : tree_of new place ≡ node_tree (trees_of old) node
  pub known : Contains old node → new ≡ old
  pub added : (Contains old node → ⊥) → new ≡ old ++ node ∷ []
  pub others : (c : TermId) → c.0 < length old → tree_of new c ≡ tree_of old c
  pub longer : length old ≤ length new
  pub one_more : length new ≤ length old + 1
  pub valid : IsStore new

module _ {S : Type 0} (nodes : Store) (store : IsStore nodes) (id : TermId) (order : List TermId) (reached : AreReached nodes id order)
    (k i : ℕ) (next : k ≡ i + 1) (index : TermId) (node : Node) (here : slice_get order i ≡ Some index) (at : slice_get nodes index.0 ≡ Some node)
    (places : HashMap ℕ TermId S) (cut : Store) (h : IsCut nodes id order k places cut) where
  -- the parts of the node have places
  pub part_placed : (c : TermId) → IsPart node c → IsSome (place_at places c)
  part_placed c part = h.placed c (subst (λ j. StandsFrom j order c) (sym next) (reached.parts i index c node here at part))

  pub moved_below : HasChildrenBelow (length cut) (over_parts (place_in places) node)
  moved_below = over_parts-below (length cut) (place_in places) node (λ c part. h.stands c (part_placed c part))

  module _ (place : TermId) (longer : Store) (interned : IsInterned cut longer (over_parts (place_in places) node) place)
      (more : HashMap ℕ TermId S) (updates : Updates nat_eq places more index.0 (Some place)) where
    -- the tree at the new place
    place_tree : tree_of longer place ≡ tree_of nodes index
    place_tree =
        interned.tree
        ∙ over_parts-tree (trees_of nodes) (trees_of cut) (place_in places) node (λ c part. h.tree c (part_placed c part))
        ∙ sym (tree_of-node nodes index node store at)

    place_within : place.0 < length longer
    place_within = slice_get_within longer place.0 (over_parts (place_in places) node) interned.at

    -- an index that is new stands at the new place
    last_is : (c : TermId) → c.0 < length longer → c.0 ≡ length cut → c ≡ place
    last_is c within last =
        let fresh : Contains cut (over_parts (place_in places) node) → ⊥ = λ known. let same = ap length (interned.known known) in omega arith in
        let at_end : slice_get longer c.0 ≡ Some (over_parts (place_in places) node) =
        ap (λ xs. slice_get xs c.0) (interned.added fresh) ∙ slice_get-end cut (over_parts (place_in places) node) c.0 last in
        let same : c.0 ≡ place.0 = interned.valid.once c.0 place.0 (over_parts (place_in places) node) at_end interned.at in
        λ j. record { 0 = same j }

    old_place : (c : TermId) → place_at more c ≡ place_at places c → place_in more c ≡ place_in places c
    old_place c same = ap (λ (o : Option TermId). unwrap_or o (record { 0 = 0 })) same

    new_place : (c : TermId) → index ≡ c → place_in more c ≡ place
    new_place c is =
        ap (λ (d : TermId). place_in more d) (sym is) ∙ ap (λ (o : Option TermId). unwrap_or o (record { 0 = 0 })) (place-new index place places more updates)

    pub cut-more : IsCut nodes id order i more longer
    cut-more = record {
      store = interned.valid;
      count = omega (arith, h.count, interned.one_more);
      placed = placed;
      stands = stands;
      tree = tree;
      fit = λ fits. record { each = fit fits };
      charges = charges;
    }
      where
        before : range_sum (own_charge_at longer) (length cut) ≤ charge_below cut (length cut)
        before =
            range_sum-le (own_charge_at longer) (own_charge_at cut) (length cut)
            (λ q lt. let same = ap own_charge (interned.others (record { 0 = q }) lt) in omega (arith, same))

        charges : charge_below longer (length longer) ≤ sum_by (λ (c : TermId). own_charge_at nodes c.0) (drop i order)
        charges =
            let rest = sum_from (λ (c : TermId). own_charge_at nodes c.0) order i index here in
            let same : k ≡ suc i = omega (arith, next) in
            let h_charges = subst (λ (j : ℕ). charge_below cut (length cut) ≤ sum_by (λ (c : TermId). own_charge_at nodes c.0) (drop j order)) same h.charges in
            elim (cases_lt (length cut) (length longer)) [
              | inl grown ↦
                  let one_more : length longer ≡ suc (length cut) = omega (arith, grown, interned.one_more) in
                  let last = ap own_charge (ap (tree_of longer) (last_is (record { 0 = length cut }) grown refl) ∙ place_tree) in
                  subst (λ (n : ℕ). charge_below longer n ≤ sum_by (λ (c : TermId). own_charge_at nodes c.0) (drop i order)) (sym one_more)
                  (omega (arith, before, last, rest, h_charges))
              | inr stays ↦
                  let no_more : length longer ≡ length cut = omega (arith, stays, interned.longer) in
                  subst (λ (n : ℕ). charge_below longer n ≤ sum_by (λ (c : TermId). own_charge_at nodes c.0) (drop i order)) (sym no_more)
                  (omega (arith, before, rest, h_charges))
            ]

        placed : (c : TermId) → StandsFrom i order c → IsSome (place_at more c)
        placed c from = elim (cases_lt i from.0) [
          | inl after ↦ place-stays index place places more updates c (h.placed c (from.0, omega arith, from.2))
          | inr same ↦
              let equal : i ≡ from.0 = let past = from.1 in omega arith in
              let is : index ≡ c = let there : slice_get order i ≡ Some c = ap (slice_get order) equal ∙ from.2 in cc in
              subst (λ (d : TermId). IsSome (place_at more d)) is (subst IsSome (sym (place-new index place places more updates)) refl)
        ]

        stands : (c : TermId) → IsSome (place_at more c) → (place_in more c).0 < length longer
        stands c is = elim (place-cases index place places more updates c is) [
          | inl same ↦ subst (λ (p : TermId). p.0 < length longer) (sym (new_place c same)) place_within
          | inr before ↦
              subst (λ (p : TermId). p.0 < length longer) (sym (old_place c before))
              (let within : (place_in places c).0 < length cut = h.stands c (subst IsSome before is) in omega (arith, interned.longer))
        ]

        tree : (c : TermId) → IsSome (place_at more c) → tree_of longer (place_in more c) ≡ tree_of nodes c
        tree c is = elim (place-cases index place places more updates c is) [
          | inl same ↦ ap (tree_of longer) (new_place c same) ∙ place_tree ∙ ap (tree_of nodes) same
          | inr before ↦
              let had : IsSome (place_at places c) = subst IsSome before is in
              ap (tree_of longer) (old_place c before) ∙ interned.others (place_in places c) (h.stands c had) ∙ h.tree c had
        ]

        fit : CanMultiplyOut (tree_of nodes id) → (c : TermId) → c.0 < length longer → CanMultiplyOut (tree_of longer c)
        fit fits c within = elim (place_cases c.0 (length cut) (omega (arith, interned.one_more))) [
          | inl before ↦ subst CanMultiplyOut (sym (interned.others c before)) ((h.fit fits).each c before)
          | inr last ↦
              subst CanMultiplyOut (sym (ap (tree_of longer) (last_is c within last) ∙ place_tree)) (reached.fit fits i index here)
        ]
