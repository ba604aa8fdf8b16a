-- Which indices a term reaches, from the greatest down.
use Rattle.std.proofs.Common.{◌≡◌, ℕ, suc, ◌+◌, ◌<◌, ◌≤◌, ◌⊎◌, inl, inr, max, Bool, true, false, cond, ◌||◌, List, [], ◌∷◌, ◌++◌, length}
use Rattle.std.proofs.Common.{eqb, slice_get, Some, sum_by, BTreeSet, nat_cmp, is_eq, is_lt, Ordering, Less, Equal, Greater, refl, sym, ap, subst, ◌∙◌}
use Rattle.std.proofs.Common.{arith}
use Rattle.std.proofs.lemmas.Bool.{cases_lt}
use Rattle.std.proofs.lemmas.Bool.Decides.{nat_tests}
use Rattle.std.proofs.lemmas.List.Sums.{sum_by_push}
use Rattle.std.proofs.lemmas.Cmp.{ranked}
use Rattle.std.proofs.lemmas.List.{length_push}
use Rattle.std.proofs.lemmas.Map.Keys.{ge_from_not_lt}
use Rattle.std.proofs.lemmas.Option.{slice_get_within}
use Rattle.std.specs.BTreeMap.{is_at}
use Rattle.std.specs.BTreeSet.{Updates, contains}
use Rattle.std.specs.Cmp.{nat_cmp_is}
use Rattle.std.specs.List.{list_any}
use Rattle.geo_points.specs.declared.ids.TermId.{TermId}
use Rattle.geo_terms.specs.declared.nodes.Node.{Node}
use Rattle.geo_terms.specs.declared.nodes.Node.TheVariants.{Int, Param, S, P, R, Neg, Add, Sub, Mul, Div}
use Rattle.geo_terms.specs.Stores.{Store, HasChildrenBelow, IsStore, tree_of}
use Rattle.fraction_poly.specs.Inner.Charges.{own_charge, own_charge_at, range_sum}
use Rattle.fraction_poly.specs.Measures.{numbers_of}
use Rattle.fraction_poly.specs.Inner.Parts.{AreReached, CanMultiplyOut, IsPart, StandsFrom}
use Rattle.fraction_poly.proofs.Places.{place_cases, slice_get-end, slice_get-front}
use Rattle.fraction_poly.proofs.OwnCharges.{charge_at, part_at, parts_at, parts_sum, pending_at}
use Rattle.fraction_poly.proofs.Ranges.{at_most, only_at, only_at-here, range_sum-at, range_sum-both, range_sum-le, range_sum-only}
use Rattle.fraction_poly.proofs.Rooms.{part_fits}
use Rattle.geo_terms.specs.Trees.{Tree}
use Rattle.geo_terms.proofs.Trees.{tree_of-node}

-- PARTS
below_two : (e f c : TermId) (k : ℕ) → (e.0 < k) × (f.0 < k) → (c ≡ e) ⊎ (c ≡ f) → c.0 < k
below_two e f c k h (inl is) = subst (λ (d : TermId). d.0 < k) (sym is) h.0
below_two e f c k h (inr is) = subst (λ (d : TermId). d.0 < k) (sym is) h.1

-- parts stand below their node
pub part_below : (k : ℕ) (node : Node) (c : TermId) → HasChildrenBelow k node → IsPart node c → c.0 < k
part_below k (Int n) c h part = absurd part
part_below k (Param t) c h part = absurd part
part_below k (S x y z) c h part = absurd part
part_below k (P x y z) c h part = absurd part
part_below k (R x y z w) c h part = absurd part
part_below k (Neg e) c h part = subst (λ (d : TermId). d.0 < k) (sym part) h
part_below k (Add e f) c h part = below_two e f c k h part
part_below k (Sub e f) c h part = below_two e f c k h part
part_below k (Mul e f) c h part = below_two e f c k h part
part_below k (Div e f) c h part = below_two e f c k h part

-- A SET OF NUMBERS
abbrev pub Has : BTreeSet ℕ → ℕ → Type 0
Has set k = contains nat_cmp set k ≡ true

same_at : (q x : ℕ) → is_at (nat_cmp q) x ≡ true → q ≡ x
same_at q x = go (nat_cmp q x) refl
  where
    go : (r : Ordering) → r ≡ nat_cmp q x → is_eq r ≡ true → q ≡ x
    go Less e h = absurd (cc)
    go Equal e h = ranked q x Equal e
    go Greater e h = absurd (cc)

at_itself : (x : ℕ) → is_at (nat_cmp x) x ≡ true
at_itself x = ap is_eq (sym (nat_cmp_is x x Equal refl))

-- one more than the greatest number
abbrev pub height : List ℕ → ℕ
height [] = 0
height (x ∷ xs) = max (suc x) (height xs)

either : (a b : Bool) → (a || b) ≡ true → (a ≡ true) ⊎ (b ≡ true)
either true b h = inl refl
either false b h = inr h

or_right : (a b : Bool) → b ≡ true → (a || b) ≡ true
or_right true b h = refl
or_right false b h = h

or_left : (a b : Bool) → a ≡ true → (a || b) ≡ true
or_left true b h = refl
or_left false b h = absurd (cc)

-- each number is below
height_above : (xs : List ℕ) (q : ℕ) → list_any (is_at (nat_cmp q)) xs ≡ true → q < height xs
height_above [] q h = absurd (cc)
height_above (x ∷ xs) q h = elim (either (is_at (nat_cmp q) x) (list_any (is_at (nat_cmp q)) xs) h) [
  | inl here ↦ omega (arith, same_at q x here)
  | inr there ↦ omega (arith, height_above xs q there)
]

-- and it is the least such number
height_least : (xs : List ℕ) (n : ℕ) → ((q : ℕ) → list_any (is_at (nat_cmp q)) xs ≡ true → q < n) → height xs ≤ n
height_least [] n h = omega arith
height_least (x ∷ xs) n h =
    let first : x < n = h x (or_left (is_at (nat_cmp x) x) (list_any (is_at (nat_cmp x)) xs) (at_itself x)) in
    let rest : height xs ≤ n = height_least xs n (λ q there. h q (or_right (is_at (nat_cmp q) x) (list_any (is_at (nat_cmp q)) xs) there)) in
    omega arith

-- the greatest number k was taken out of the set
pub record TakesGreatest (k : ℕ) (old new : BTreeSet ℕ) : Type 0 where
  pub member : Has old k
  pub others : (q : ℕ) → Has old q → (q ≡ k) ⊎ Has new q
  pub kept : (q : ℕ) → Has new q → Has old q
  pub below : (q : ℕ) → Has new q → q < k

pub takes_greatest : (k : ℕ) (old new : BTreeSet ℕ) → Has old k → ((q : ℕ) → Has old q → is_lt (nat_cmp k q) ≡ false) → Updates nat_cmp old new k false → TakesGreatest k old new
takes_greatest k old new member greatest updates = record {
  member = member;
  others = λ q has. others q has (is_at (nat_cmp k) q) refl;
  kept = λ q has. kept q has (is_at (nat_cmp k) q) refl;
  below = λ q has. elim (cases_lt q k) [ inl below ↦ below | inr above ↦ absurd (below q has above) ];
}
  where
    others : (q : ℕ) → Has old q → (b : Bool) → is_at (nat_cmp k) q ≡ b → (q ≡ k) ⊎ Has new q
    others q has true e = inl (sym (same_at k q e))
    others q has false e = inr (updates.2 q e ∙ has)

    gone : (q : ℕ) → Has new q → is_at (nat_cmp k) q ≡ true → ⊥
    gone q has e = let absent : contains nat_cmp new q ≡ false = updates.0 q ∙ ap (λ b. cond b false (contains nat_cmp old q)) e in cc

    kept : (q : ℕ) → Has new q → (b : Bool) → is_at (nat_cmp k) q ≡ b → Has old q
    kept q has true e = absurd (gone q has e)
    kept q has false e = sym (updates.2 q e) ∙ has

    below : (q : ℕ) → Has new q → k ≤ q → ⊥
    below q has above =
        let least : q ≤ k = ge_from_not_lt k q (greatest q (kept q has (is_at (nat_cmp k) q) refl)) in
        let same : k ≡ q = omega arith in
        gone q has (subst (λ x. is_at (nat_cmp k) x ≡ true) same (at_itself k))

-- the number k was put into the set
pub record Puts (k : ℕ) (old new : BTreeSet ℕ) : Type 0 where
  pub member : Has new k
  pub others : (q : ℕ) → Has new q → (q ≡ k) ⊎ Has old q
  pub kept : (q : ℕ) → Has old q → Has new q

pub puts : (k : ℕ) (old new : BTreeSet ℕ) → Updates nat_cmp old new k true → Puts k old new
puts k old new updates = record {
  member = updates.1;
  others = λ q has. others q has (is_at (nat_cmp k) q) refl;
  kept = λ q has. kept q has (is_at (nat_cmp k) q) refl;
}
  where
    others : (q : ℕ) → Has new q → (b : Bool) → is_at (nat_cmp k) q ≡ b → (q ≡ k) ⊎ Has old q
    others q has true e = inl (sym (same_at k q e))
    others q has false e = inr (sym (updates.2 q e) ∙ has)

    kept : (q : ℕ) → Has old q → (b : Bool) → is_at (nat_cmp k) q ≡ b → Has new q
    kept q has true e = updates.0 q ∙ ap (λ b. cond b true (contains nat_cmp old q)) e
    kept q has false e = updates.2 q e ∙ has

-- the parts of the node were put into the set
pub record PutsParts (node : Node) (old new : BTreeSet ℕ) : Type 0 where
  pub parts : (c : TermId) → IsPart node c → Has new c.0
  pub kept : (q : ℕ) → Has old q → Has new q
  pub others : (c : TermId) → Has new c.0 → Has old c.0 ⊎ IsPart node c

-- THE LOOP
-- the index is pending, or stands in the list at the place k or after it
abbrev pub IsAhead : BTreeSet ℕ → ℕ → List TermId → TermId → Type 0
IsAhead pending k order c = Has pending c.0 ⊎ StandsFrom k order c

pub record IsReaching (nodes : Store) (id : TermId) (pending : BTreeSet ℕ) (order : List TermId) : Type 0 where
  pub own : IsAhead pending 0 order id
  pub parts : (k : ℕ) (c d : TermId) (node : Node) → slice_get order k ≡ Some c → slice_get nodes c.0 ≡ Some node → IsPart node d → IsAhead pending (k + 1) order d
  pub stored : (c : TermId) → IsAhead pending 0 order c → c.0 < length nodes
  pub fit : CanMultiplyOut (tree_of nodes id) → (c : TermId) → IsAhead pending 0 order c → CanMultiplyOut (tree_of nodes c)
  pub few : length order + height pending.keys ≤ length nodes
  pub charges : sum_by (λ c. own_charge_at nodes c.0) order + range_sum (pending_at nodes pending) (length nodes) ≤ charge_at nodes id.0

module _ (nodes : Store) (store : IsStore nodes) (id : TermId) where
  -- only the term is pending
  pub reaching-first : (none pending : BTreeSet ℕ) → none.keys ≡ [] → id.0 < length nodes → Updates nat_cmp none pending id.0 true → IsReaching nodes id pending []
  reaching-first none pending empty within updates = record {
    own = inl put.member;
    parts = λ k c d node at. absurd (nowhere k c at);
    stored = λ c ahead. subst (λ (e : TermId). e.0 < length nodes) (only c ahead) within;
    fit = λ fits c ahead. subst (λ (e : TermId). CanMultiplyOut (tree_of nodes e)) (only c ahead) fits;
    few = omega (arith, height_least pending.keys (length nodes) (λ q has. let same = alone q has in omega arith));
    charges =
        omega (
          arith,
          range_sum-le (pending_at nodes pending) (only_at id.0 (charge_at nodes id.0)) (length nodes) (λ q lt. alone_at q (contains nat_cmp pending q) refl),
          range_sum-only id.0 (charge_at nodes id.0) (length nodes),
        );
  }
    where
      put : Puts id.0 none pending
      put = puts id.0 none pending updates

      nowhere : (k : ℕ) (c : TermId) → slice_get [] k ≡ Some c → ⊥
      nowhere k c at = absurd (let within = slice_get_within [] k c at in omega arith)

      alone : (q : ℕ) → Has pending q → id.0 ≡ q
      alone q has = elim (put.others q has) [
        | inl same ↦ sym same
        | inr old ↦ absurd (let absent : contains nat_cmp none q ≡ false = ap (list_any (is_at (nat_cmp q))) empty in cc)
      ]

      alone_at : (q : ℕ) (b : Bool) → contains nat_cmp pending q ≡ b → pending_at nodes pending q ≤ only_at id.0 (charge_at nodes id.0) q
      alone_at q true has =
          subst (λ (k : ℕ). pending_at nodes pending k ≤ only_at id.0 (charge_at nodes id.0) k) (alone q has)
          (omega (arith, at_most (contains nat_cmp pending id.0) (charge_at nodes id.0), only_at-here id.0 (charge_at nodes id.0)))
      alone_at q false e = omega (arith, ap (λ b. cond b (charge_at nodes q) 0) e)

      only : (c : TermId) → IsAhead pending 0 [] c → id ≡ c
      only c (inl has) = λ i. record { 0 = alone c.0 has i }
      only c (inr stands) = absurd (nowhere stands.0 c stands.2)

  -- the greatest is taken, and its parts are put
  module _ (order : List TermId) (index : TermId) (node : Node) (old taken new : BTreeSet ℕ)
      (h : IsReaching nodes id old order)
      (takes : TakesGreatest index.0 old taken)
      (at : slice_get nodes index.0 ≡ Some node)
      (put : PutsParts node taken new) where
    abbrev pub more : List TermId
    more = order ++ index ∷ []

    at_end : slice_get more (length order) ≡ Some index
    at_end = slice_get-end order index (length order) refl

    stands_more : (k : ℕ) (c : TermId) → StandsFrom k order c → StandsFrom k more c
    stands_more k c stands =
        (stands.0, stands.1, slice_get-front order (index ∷ []) stands.0 (slice_get_within order stands.0 c stands.2) ∙ stands.2)

    -- what was ahead still is
    ahead_more : (k : ℕ) (c : TermId) → k ≤ length order → IsAhead old k order c → IsAhead new k more c
    ahead_more k c within (inr stands) = inr (stands_more k c stands)
    ahead_more k c within (inl has) = elim (takes.others c.0 has) [
      | inl same ↦
          let is : index ≡ c = λ i. record { 0 = sym same i } in
          inr (length order, within, at_end ∙ ap Some is)
      | inr still ↦ inl (put.kept c.0 still)
    ]

    -- what is ahead was, or is a part
    ahead_less : (c : TermId) → IsAhead new 0 more c → IsAhead old 0 order c ⊎ IsPart node c
    ahead_less c (inl has) = elim (put.others c has) [ inl before ↦ inl (inl (takes.kept c.0 before)) | inr part ↦ inr part ]
    ahead_less c (inr stands) =
        let within : stands.0 < length more = slice_get_within more stands.0 c stands.2 in
        elim (place_cases stands.0 (length order) (omega (arith, length_push order index))) [
          | inl before ↦ inl (inr (stands.0, stands.1, sym (slice_get-front order (index ∷ []) stands.0 before) ∙ stands.2))
          | inr last ↦ inl (inl (let same : index ≡ c = let here : slice_get more stands.0 ≡ Some index = slice_get-end order index stands.0
              last in cc in subst (λ (d : TermId). Has old d.0) same takes.member))
        ]

    node_below : HasChildrenBelow index.0 node
    node_below = store.children index.0 node at

    low : (q : ℕ) → Has new q → q < index.0
    low q has = elim (put.others (record { 0 = q }) has) [
      | inl before ↦ takes.below q before
      | inr part ↦ part_below index.0 node (record { 0 = q }) node_below part
    ]

    -- WHAT IT COSTS
    taken_at : (q : ℕ) (b : Bool) → contains nat_cmp taken q ≡ b → pending_at nodes taken q + only_at index.0 (charge_at nodes index.0) q ≤ pending_at nodes old q
    taken_at q true has =
        let below : q < index.0 = takes.below q has in
        let other : eqb q index.0 ≡ false = grind (arith, nat_tests, below) in
        omega (
          arith,
          ap (λ b. cond b (charge_at nodes q) 0) has,
          ap (λ b. cond b (charge_at nodes q) 0) (takes.kept q has),
          ap (λ b. cond b (charge_at nodes index.0) 0) other,
        )
    taken_at q false e = go (eqb q index.0) refl
      where
        go : (b : Bool) → eqb q index.0 ≡ b → pending_at nodes taken q + only_at index.0 (charge_at nodes index.0) q ≤ pending_at nodes old q
        go true here =
            let same : index.0 ≡ q = grind (arith, nat_tests, here) in
            let at_index : only_at index.0 (charge_at nodes index.0) q ≤ pending_at nodes old q =
            subst (λ (k : ℕ). only_at index.0 (charge_at nodes index.0) k ≤ pending_at nodes old k) same
            (omega (arith, at_most (eqb index.0 index.0) (charge_at nodes index.0), ap (λ b. cond b (charge_at nodes index.0) 0) takes.member)) in
            omega (arith, at_index, ap (λ b. cond b (charge_at nodes q) 0) e)
        go false other = omega (arith, ap (λ b. cond b (charge_at nodes q) 0) e, ap (λ b. cond b (charge_at nodes index.0) 0) other)

    new_at : (q : ℕ) (b : Bool) → contains nat_cmp new q ≡ b → pending_at nodes new q ≤ pending_at nodes taken q + parts_at nodes node q
    new_at q false e = omega (arith, ap (λ b. cond b (charge_at nodes q) 0) e)
    new_at q true has = elim (put.others (record { 0 = q }) has) [
      | inl before ↦ omega (arith, at_most (contains nat_cmp new q) (charge_at nodes q), ap (λ b. cond b (charge_at nodes q) 0) before)
      | inr part ↦ omega (arith, at_most (contains nat_cmp new q) (charge_at nodes q), part_at nodes node (record { 0 = q }) part)
    ]

    cost : own_charge_at nodes index.0 + range_sum (pending_at nodes new) (length nodes) ≤ range_sum (pending_at nodes old) (length nodes)
    cost =
        let within : index.0 < length nodes = slice_get_within nodes index.0 node at in
        let whole : range_sum (parts_at nodes node) (length nodes) + own_charge_at nodes index.0 ≤ charge_at nodes index.0 =
        subst (λ (e : Tree). range_sum (parts_at nodes node) (length nodes) + own_charge e ≤ (numbers_of e).charge) (sym (tree_of-node nodes index node store at))
        (parts_sum nodes node (length nodes)) in
        omega (
          arith,
          whole,
          range_sum-le (pending_at nodes new) (λ q. pending_at nodes taken q + parts_at nodes node q) (length nodes) (λ q lt. new_at q (contains nat_cmp new q) refl),
          range_sum-both (pending_at nodes taken) (parts_at nodes node) (length nodes),
          range_sum-le (λ q. pending_at nodes taken q + only_at index.0 (charge_at nodes index.0) q) (pending_at nodes old) (length nodes)
              (λ q lt. taken_at q (contains nat_cmp taken q) refl),
          range_sum-both (pending_at nodes taken) (only_at index.0 (charge_at nodes index.0)) (length nodes),
          range_sum-at index.0 (charge_at nodes index.0) (length nodes) within,
        )

    pub reaching-more : IsReaching nodes id new more
    reaching-more = record {
      own = ahead_more 0 id (omega arith) h.own;
      parts = parts;
      stored = λ c ahead. elim (ahead_less c ahead) [
        | inl before ↦ h.stored c before
        | inr part ↦ let below = part_below index.0 node c node_below part in let within = slice_get_within nodes index.0 node at in omega arith
      ];
      fit = λ fits c ahead. elim (ahead_less c ahead) [
        | inl before ↦ h.fit fits c before
        | inr part ↦ part_fits nodes index node c store at (h.fit fits index (inl takes.member)) part
      ];
      few = omega (arith, length_push order index, height_above old.keys index.0 takes.member, height_least new.keys index.0 low);
      charges = omega (arith, h.charges, cost, sum_by_push (λ (c : TermId). own_charge_at nodes c.0) order index);
    }
      where
        parts : (k : ℕ) (c d : TermId) (other : Node) → slice_get more k ≡ Some c → slice_get nodes c.0 ≡ Some other → IsPart other d → IsAhead new (k + 1) more d
        parts k c d other here other_at part =
            let within : k < length more = slice_get_within more k c here in
            elim (place_cases k (length order) (omega (arith, length_push order index))) [
              | inl before ↦ ahead_more (k + 1) d (omega arith) (h.parts k c d other (sym (slice_get-front order (index ∷ []) k before) ∙ here) other_at part)
              | inr last ↦
                  let is : slice_get more k ≡ Some index = slice_get-end order index k last in
                  let same : other ≡ node = cc in
                  inl (put.parts d (subst (λ (n : Node). IsPart n d) same part))
            ]

    -- fewer numbers are left
    pub height_falls : height new.keys < height old.keys
    height_falls = omega (arith, height_above old.keys index.0 takes.member, height_least new.keys index.0 low)

  -- none is left
  pub drained : (pending : BTreeSet ℕ) → (0 < length pending.keys → false ≡ true) → pending.keys ≡ []
  drained pending none = go pending.keys none
    where
      go : (keys : List ℕ) → (0 < length keys → false ≡ true) → keys ≡ []
      go [] h = refl
      go (x ∷ xs) h = absurd (let some : false ≡ true = h (omega arith) in cc)

  pub reaching-all : (pending : BTreeSet ℕ) (order : List TermId) → pending.keys ≡ [] → IsReaching nodes id pending order → AreReached nodes id order
  reaching-all pending order empty h = record {
    own = stands 0 id h.own;
    parts = λ k c d node here at part. stands (k + 1) d (h.parts k c d node here at part);
    stored = λ k c here. h.stored c (inr (k, omega arith, here));
    fit = λ fits k c here. h.fit fits c (inr (k, omega arith, here));
    few = omega (arith, h.few);
    charges = omega (arith, h.charges);
  }
    where
      stands : (k : ℕ) (c : TermId) → IsAhead pending k order c → StandsFrom k order c
      stands k c (inr is) = is
      stands k c (inl has) = absurd (let absent : contains nat_cmp pending c.0 ≡ false = ap (list_any (is_at (nat_cmp c.0))) empty in cc)
