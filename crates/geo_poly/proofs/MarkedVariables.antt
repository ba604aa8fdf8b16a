-- A walk over a monomial that marks the numbers of its variables, and the variables that are marked at the end.
use Rattle.std.proofs.Common.{◌≡◌, ℕ, zero, suc, ◌+◌, ◌-◌, ◌<◌, ◌≤◌, Bool, true, false, cond, List, [], ◌∷◌, ◌++◌, inl, inr, length, drop}
use Rattle.std.proofs.Common.{refl, sym, ap, ap₂, subst, ◌∙◌, append_assoc, arith}
use Rattle.std.specs.Prelude.{◌≢◌, ◌⊎◌, Contains, slice_index_or}
use Rattle.std.specs.List.Sorted.{IsStrictlySortedBy}
use Rattle.std.specs.declared.cmp.Ordering.{Ordering}
use Rattle.std.specs.declared.cmp.Ordering.TheVariants.{Less, Equal, Greater}
use Rattle.std.proofs.lemmas.Bool.{false≢true}
use Rattle.sparse_lists.specs.SparseLists.{AllKeys}
use Rattle.sparse_lists.proofs.Merging.{drop_at, get_or_any}
use Rattle.mono_store.specs.declared.links.MonoId.{MonoId}
use Rattle.mono_store.specs.Monomials.{Powers as NumberedPowers}
use Rattle.mono_store.specs.Stores.{Store, monomial_of, words}
use Rattle.geo_poly.specs.declared.shared.Shared.{Shared}
use Rattle.geo_poly.specs.declared.variables.Var.{Var}
use Rattle.geo_poly.specs.declared.variables.Var.TheVariants.{R}
use Rattle.geo_poly.specs.Inner.Visits.{AreKnown, AreMarked, AreNumbersOf, AreVisited, Extends, IsMarked, marked}
use Rattle.geo_poly.specs.PolynomialVariables.{AllVariables, variables_of}
use Rattle.geo_poly.specs.Shared.{AllPlaces, AreParts, Indices, IsIndex, named, terms_of, told, var_at}
use Rattle.geo_poly.specs.Variables.{var_cmp}
use Rattle.geo_poly.proofs.ChainSteps.{same_or}
use Rattle.geo_poly.proofs.EachVariable.{each-contained, each-variables}
use Rattle.geo_poly.proofs.KnownVariables.{below_known, head_or}
use Rattle.geo_poly.proofs.Orders.{var_order}
use Rattle.geo_poly.proofs.Told.{item}
use Rattle.geo_poly.proofs.VariablesInOrder.{IsBelow, variables_in_order}

abbrev none : Var
none = R (record { 0 = 0 }) (record { 0 = 0 }) (record { 0 = 0 }) (record { 0 = 0 })

-- MARKS
pub AreMarked-extends : (old new : List Bool) (m : NumberedPowers) → Extends old new → AreMarked old m → AreMarked new m
AreMarked-extends old new [] more h = tt
AreMarked-extends old new (p ∷ m) more h = (more p.0 h.0, AreMarked-extends old new m more h.1)

-- one place is marked
pub Extends-mark : (old new : List Bool) (place : ℕ) → place < length old → (place < length old → IsMarked new place)
    → ((k : ℕ) → k ≢ place → slice_index_or new k false ≡ slice_index_or old k false) → Extends old new
Extends-mark old new place within here others = λ k there. elim (same_or k place) [
  | inl e ↦ subst (IsMarked new) (sym e) (here within)
  | inr d ↦ others k d ∙ there
]

-- a walk from a monomial has come to its rest: the links that were marked before are done, and the others are done, and the monomial,
-- with all marks that have the rest
pub record Walking (store : Store) (visited known : List Bool) (rest : ℕ) (id : MonoId) : Type 0 where
  pub before : (k : ℕ) → words store + k ≤ rest → IsMarked visited k → AreMarked known (monomial_of store (record { 0 = words store + k }))
  pub soon : (marks : List Bool) → Extends known marks → AreMarked marks (monomial_of store (record { 0 = rest }))
      → AreVisited store visited marks × AreMarked marks (monomial_of store id)

pub Walking-start : (store : Store) (visited known : List Bool) (id : MonoId) → AreVisited store visited known → Walking store visited known id.0 id
Walking-start store visited known id h = record {
  before = λ k below there. h k there;
  soon = λ marks more all. (λ k there. AreMarked-extends known marks (monomial_of store (record { 0 = words store + k })) more (h k there), all);
}

module _ (store : Store) (visited visited' known : List Bool) (rest : ℕ) (id : MonoId) (w : ℕ) (counted : w ≡ words store)
    (grown : (k : ℕ) → IsMarked visited' k → IsMarked visited k ⊎ (rest ≡ w + k)) (h : Walking store visited known rest id) where
  -- with marks that have the rest
  done : (marks : List Bool) → Extends known marks → AreMarked marks (monomial_of store (record { 0 = rest }))
      → AreVisited store visited' marks × AreMarked marks (monomial_of store id)
  done marks more all =
      let whole = h.soon marks more all in (
        λ k there. elim (grown k there) [
          | inl old ↦ whole.0 k old
          | inr e ↦ subst (λ (j : ℕ). AreMarked marks (monomial_of store (record { 0 = j }))) (e ∙ ap (λ (n : ℕ). n + k) counted) all
        ],
        whole.1,
      )

  -- one power: its number is marked, and the walk goes on with an earlier monomial
  pub Walking-next : (known' : List Bool) (next v e : ℕ) → next < rest → Extends known known' → IsMarked known' v
      → monomial_of store (record { 0 = rest }) ≡ (v, e) ∷ monomial_of store (record { 0 = next }) → Walking store visited' known' next id
  Walking-next known' next v e earlier more here parts = record {
    before = λ k below there. elim (grown k there) [
      | inl old ↦ AreMarked-extends known known' (monomial_of store (record { 0 = words store + k })) more (h.before k (omega (arith, below, earlier)) old)
      | inr same ↦ absurd (omega (arith, same, below, earlier, counted))
    ];
    soon = λ marks further all.
        done marks (λ k there. further k (more k there)) (subst (AreMarked marks) (sym parts) (further v here, all));
  }

  -- a link that was visited
  pub Walking-known : w ≤ rest → IsMarked visited (rest - w) → AreVisited store visited' known × AreMarked known (monomial_of store id)
  Walking-known past there =
      let same : words store + (rest - w) ≡ rest = omega (arith, past, counted) in
      done known (λ k m. m)
      (subst (λ (j : ℕ). AreMarked known (monomial_of store (record { 0 = j }))) same (h.before (rest - w) (omega (arith, same)) there))

-- the end of the monomial
pub Walking-end : (store : Store) (visited known : List Bool) (rest : ℕ) (id : MonoId) → monomial_of store (record { 0 = rest }) ≡ []
    → Walking store visited known rest id → AreVisited store visited known × AreMarked known (monomial_of store id)
Walking-end store visited known rest id empty h = h.soon known (λ k m. m) (subst (AreMarked known) (sym empty) tt)

-- the rest behind a power
pub rest_index : (vars : List Var) (store : Store) (id next : MonoId) (v e : ℕ) → monomial_of store id ≡ (v, e) ∷ monomial_of store next
    → next.0 < id.0 → IsIndex vars store id → IsIndex vars store next × (v < length vars)
rest_index vars store id next v e parts earlier is =
    let places = subst (AllPlaces (length vars)) parts is.places in
    (record { within = omega (arith, earlier, is.within); places = places.1 }, places.0)

-- the number that is marked is that of a variable which occurs
pub only_more : (vars : List Var) (known known' : List Bool) (keys : List Var) (m next : NumberedPowers) (v e : ℕ) → m ≡ (v, e) ∷ next
    → ((k : ℕ) → k ≢ v → slice_index_or known' k false ≡ slice_index_or known k false)
    → AreKnown vars known keys × AllKeys (Contains keys) (named vars m) → AreKnown vars known' keys × AllKeys (Contains keys) (named vars next)
only_more vars known known' keys m next v e parts others h =
    let names = subst (λ (n : NumberedPowers). AllKeys (Contains keys) (named vars n)) parts h.1 in (
      λ k there. elim (same_or k v) [
        | inl same ↦ subst (λ (j : ℕ). Contains keys (var_at vars j)) (sym same) names.0
        | inr d ↦ h.0 k (sym (others k d) ∙ there)
      ],
      names.1,
    )

-- where each number is marked, those of each monomial are
pub all_marked : (n : ℕ) (known : List Bool) (m : NumberedPowers) → AllPlaces n m → ((k : ℕ) → k < n → IsMarked known k) → AreMarked known m
all_marked n known [] places each = tt
all_marked n known (p ∷ m) places each = (each p.0 places.0, all_marked n known m places.1 each)

-- a property of each item
pub each_item : (P : MonoId → Type 0) (list : Indices) → ((i : ℕ) → i < length list → P (item list i).0) → AllKeys P list
each_item P [] each = tt
each_item P (t ∷ list) each = (each 0 (omega arith), each_item P list (λ i within. each (suc i) (omega (arith, within))))

-- THE MARKED VARIABLES
below_marked : (u : Var) (vars : List Var) (known : List Bool) → IsBelow u vars → IsBelow u (marked vars known)
below_marked u [] known h = tt
below_marked u (v ∷ vars) [] h = tt
below_marked u (v ∷ vars) (true ∷ known) h = (h.0, below_marked u vars known h.1)
below_marked u (v ∷ vars) (false ∷ known) h = below_marked u vars known h.1

pub marked_rise : (vars : List Var) (known : List Bool) → IsStrictlySortedBy var_cmp vars → IsStrictlySortedBy var_cmp (marked vars known)
unfolding IsStrictlySortedBy
marked_rise [] known h = tt
marked_rise (v ∷ vars) [] h = tt
marked_rise (v ∷ vars) (true ∷ known) h = (below_marked v vars known h.0, marked_rise vars known h.1)
marked_rise (v ∷ vars) (false ∷ known) h = marked_rise vars known h.1

later : (x : Var) (xs : List Var) (v : Var) → Contains xs v → Contains (x ∷ xs) v
later x xs v c = (suc c.0, omega (arith, c.1), c.2)

-- they are those of the marked numbers
has_marked : (vars : List Var) (known : List Bool) (k : ℕ) → k < length vars → IsMarked known k → Contains (marked vars known) (var_at vars k)
has_marked [] known k within there = absurd (omega arith)
has_marked (v ∷ vars) [] k within there = absurd (false≢true there)
has_marked (v ∷ vars) (true ∷ known) zero within there = (0, omega arith, refl)
has_marked (v ∷ vars) (false ∷ known) zero within there = absurd (false≢true there)
has_marked (v ∷ vars) (true ∷ known) (suc k) within there = later v (marked vars known) (var_at vars k) (has_marked vars known k (omega (arith, within)) there)
has_marked (v ∷ vars) (false ∷ known) (suc k) within there = has_marked vars known k (omega (arith, within)) there

only_marked : (vars : List Var) (known : List Bool) (v : Var) → Contains (marked vars known) v → (k : ℕ) × IsMarked known k × (var_at vars k ≡ v)
only_marked [] known v c = absurd (omega (arith, c.1))
only_marked (u ∷ vars) [] v c = absurd (omega (arith, c.1))
only_marked (u ∷ vars) (true ∷ known) v c = elim (head_or u (marked vars known) v c) [
  | inl e ↦ (0, refl, e)
  | inr d ↦ let there = only_marked vars known v d in (suc there.0, there.1, there.2)
]
only_marked (u ∷ vars) (false ∷ known) v c = let there = only_marked vars known v c in (suc there.0, there.1, there.2)

-- rising lists with the same members
same_members : (us vs : List Var) → IsStrictlySortedBy var_cmp us → IsStrictlySortedBy var_cmp vs → ((v : Var) → Contains us v → Contains vs v)
    → ((v : Var) → Contains vs v → Contains us v) → us ≡ vs
unfolding IsStrictlySortedBy
same_members [] [] s t into back = refl
same_members [] (v ∷ vs) s t into back = let c = back v (0, omega arith, refl) in absurd (omega (arith, c.1))
same_members (u ∷ us) [] s t into back = let c = into u (0, omega arith, refl) in absurd (omega (arith, c.1))
same_members (u ∷ us) (v ∷ vs) s t into back = go (var_cmp u v) refl (λ a b. same_members us vs s.1 t.1 a b)
  where
    -- a variable of the longer list that is not its first
    rest : (x w : Var) (xs : List Var) → var_cmp x w ≡ Less → Contains (x ∷ xs) w → Contains xs w
    rest x w xs less c = elim (head_or x xs w c) [
      | inl e ↦ let equal : var_cmp x w ≡ Equal = subst (λ (y : Var). var_cmp x y ≡ Equal) e (var_order.self x) in absurd (cc)
      | inr d ↦ d
    ]

    go : (o : Ordering) → var_cmp u v ≡ o → (((w : Var) → Contains us w → Contains vs w) → ((w : Var) → Contains vs w → Contains us w) → us ≡ vs) → u ∷ us ≡ v ∷ vs
    go Less e more =
        let there = into u (0, omega arith, refl) in
        elim (head_or v vs u there) [
          | inl same ↦ let equal : var_cmp u v ≡ Equal = subst (λ (y : Var). var_cmp u y ≡ Equal) (sym same) (var_order.self u) in absurd (cc)
          | inr d ↦ let greater : var_cmp u v ≡ Greater = var_order.flip v u (below_known v vs u t.0 d) in absurd (cc)
        ]
    go Greater e more =
        let there = back v (0, omega arith, refl) in
        elim (head_or u us v there) [
          | inl same ↦ let equal : var_cmp u v ≡ Equal = subst (λ (y : Var). var_cmp u y ≡ Equal) same (var_order.self u) in absurd (cc)
          | inr d ↦ let less : var_cmp u v ≡ Less = below_known u us v s.0 d in absurd (cc)
        ]
    go Equal e more =
        let same : u ≡ v = var_order.exact u v e in
        let tails : us ≡ vs = more
        (λ w c. rest v w vs (subst (λ (y : Var). var_cmp y w ≡ Less) same (below_known u us w s.0 c)) (into w (later u us w c)))
        (λ w c. rest u w us (subst (λ (y : Var). var_cmp y w ≡ Less) (sym same) (below_known v vs w t.0 c)) (back w (later v vs w c))) in
        cc

marked_names : (vars : List Var) (known : List Bool) (m : NumberedPowers) → AllPlaces (length vars) m → AreMarked known m
    → AllKeys (Contains (marked vars known)) (named vars m)
marked_names vars known [] places h = tt
marked_names vars known (p ∷ m) places h = (has_marked vars known p.0 places.0 h.0, marked_names vars known m places.1 h.1)

marked_terms : (vars : List Var) (store : Store) (known : List Bool) (list : Indices) → AllKeys (IsIndex vars store) list
    → AllKeys (λ id. AreMarked known (monomial_of store id)) list → AllVariables (Contains (marked vars known)) (terms_of vars store list)
marked_terms vars store known [] is all = tt
marked_terms vars store known (t ∷ list) is all =
    (marked_names vars known (monomial_of store t.0) is.0.places all.0, marked_terms vars store known list is.1 all.1)

-- where the numbers of the variables that occur are marked, and no others, the marked variables are those of the polynomial
pub marked_variables_of : (p : Shared) (known : List Bool) → AreParts p → AreNumbersOf p known → marked p.vars.now known ≡ variables_of (told p)
marked_variables_of p known parts numbers =
    let vars = p.vars.now in
    let occur = variables_of (told p) in
    same_members (marked p.vars.now known) (variables_of (told p)) (marked_rise vars known parts.rising) (variables_in_order (told p))
    (λ v c. let there = only_marked vars known v c in subst (Contains occur) there.2 (numbers.only there.0 there.1))
    (λ v c. each-contained (Contains (marked vars known)) (variables_of (told p)) v
    (each-variables (Contains (marked vars known)) (told p) (marked_terms vars p.monos.now known p.list.now parts.indices numbers.all)) c)

-- one more variable, which is marked or not
pub marked-last : (vars : List Var) (known : List Bool) (v : Var) (b : Bool) → length known ≡ length vars
    → marked (vars ++ v ∷ []) (known ++ b ∷ []) ≡ marked vars known ++ cond b (v ∷ []) []
marked-last [] [] v b room = refl
marked-last [] (c ∷ known) v b room = absurd (omega (arith, room))
marked-last (u ∷ vars) [] v b room = absurd (omega (arith, room))
marked-last (u ∷ vars) (true ∷ known) v b room = ap (λ (vs : List Var). u ∷ vs) (marked-last vars known v b (omega (arith, room)))
marked-last (u ∷ vars) (false ∷ known) v b room = marked-last vars known v b (omega (arith, room))

-- the marked variables that are left
module _ (vars : List Var) (known : List Bool) (i : ℕ) (within : i < length vars) (room : length known ≡ length vars) (found whole : List Var)
    (h : found ++ marked (drop i vars) (drop i known) ≡ whole) where
  abbrev v : Var
  v = var_at vars i

  abbrev b : Bool
  b = slice_index_or known i false

  left : marked (drop i vars) (drop i known) ≡ marked (v ∷ drop (i + 1) vars) (b ∷ drop (i + 1) known)
  left =
      ap₂ marked (drop_at vars i v within (get_or_any vars i none v within))
      (drop_at known i b (omega (arith, room, within)) (get_or_any known i false b (omega (arith, room, within))))

  pub marked_push : (x : Var) → x ≡ slice_index_or vars i x → IsMarked known i → (found ++ x ∷ []) ++ marked (drop (i + 1) vars) (drop (i + 1) known) ≡ whole
  marked_push x is there =
      let same : x ≡ v = is ∙ get_or_any vars i x none within in
      append_assoc found (x ∷ []) (marked (drop (i + 1) vars) (drop (i + 1) known))
      ∙ ap (λ (y : Var). found ++ y ∷ marked (drop (i + 1) vars) (drop (i + 1) known)) same
      ∙ sym (ap (λ (c : Bool). found ++ marked (v ∷ drop (i + 1) vars) (c ∷ drop (i + 1) known)) there)
      ∙ sym (ap (λ (vs : List Var). found ++ vs) left) ∙ h

  pub marked_skip : b ≡ false → found ++ marked (drop (i + 1) vars) (drop (i + 1) known) ≡ whole
  marked_skip there =
      sym (ap (λ (c : Bool). found ++ marked (v ∷ drop (i + 1) vars) (c ∷ drop (i + 1) known)) there)
      ∙ sym (ap (λ (vs : List Var). found ++ vs) left) ∙ h
