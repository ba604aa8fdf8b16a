-- Variables that are inserted where they stand already.
use Rattle.std.proofs.Common.{◌≡◌, ℕ, zero, suc, ◌<◌, List, [], ◌∷◌, map, inl, inr, length, slice_index_or, refl, sym, ap, subst, arith}
use Rattle.std.specs.Prelude.{◌⊎◌, Contains, Some, slice_get}
use Rattle.std.specs.Option.{option_map}
use Rattle.std.specs.BTreeSet.{insert_key}
use Rattle.std.specs.List.{fold}
use Rattle.std.specs.List.Sorted.{IsStrictlySortedBy}
use Rattle.std.specs.Ordering.{match_ordering}
use Rattle.std.specs.declared.cmp.Ordering.{Ordering}
use Rattle.std.specs.declared.cmp.Ordering.TheVariants.{Less, Equal, Greater}
use Rattle.sparse_lists.specs.SparseLists.{AllKeys}
use Rattle.geo_poly.specs.declared.variables.Var.{Var}
use Rattle.geo_poly.specs.Monomials.{Powers}
use Rattle.geo_poly.specs.Variables.{var_cmp}
use Rattle.geo_poly.proofs.Orders.{var_order}
use Rattle.geo_poly.proofs.VariablesInOrder.{IsBelow}

-- the variables of a monomial
abbrev pub names : Powers → List Var
names m = map (λ p. p.0) m

-- what a monomial's variables were inserted into
abbrev pub with_names : List Var → Powers → List Var
with_names ks m = fold (insert_key var_cmp) ks (names m)

pub head_or : (x : Var) (xs : List Var) (v : Var) → Contains (x ∷ xs) v → (x ≡ v) ⊎ Contains xs v
head_or x xs v c = go c.0 c.1 c.2
  where
    go : (k : ℕ) → k < length (x ∷ xs) → slice_index_or (x ∷ xs) k v ≡ v → (x ≡ v) ⊎ Contains xs v
    go zero h e = inl e
    go (suc k) h e = inr (k, omega (arith, h), e)

pub below_known : (x : Var) (xs : List Var) (v : Var) → IsBelow x xs → Contains xs v → var_cmp x v ≡ Less
below_known x [] v b c = absurd (omega (arith, c.1))
below_known x (y ∷ ys) v b c = elim (head_or y ys v c) [
  | inl e ↦ subst (λ (w : Var). var_cmp x w ≡ Less) e b.0
  | inr d ↦ below_known x ys v b.1 d
]

-- INSERTING WHAT IS THERE
pub insert_known : (ks : List Var) (v : Var) → IsStrictlySortedBy var_cmp ks → Contains ks v → insert_key var_cmp ks v ≡ ks
unfolding IsStrictlySortedBy
insert_known [] v s c = absurd (omega (arith, c.1))
insert_known (x ∷ xs) v s c = go (var_cmp v x) refl (λ d. insert_known xs v s.1 d)
  where
    go : (o : Ordering) → var_cmp v x ≡ o → (Contains xs v → insert_key var_cmp xs v ≡ xs) → match_ordering o (v ∷ x ∷ xs) (x ∷ xs) (x ∷ insert_key var_cmp xs v) ≡ x ∷ xs
    go Equal e rest = refl
    go Greater e rest = elim (head_or x xs v c) [
      | inl same ↦ let equal : var_cmp v x ≡ Equal = subst (λ (w : Var). var_cmp v w ≡ Equal) (sym same) (var_order.self v) in absurd (cc)
      | inr d ↦ ap (λ (ys : List Var). x ∷ ys) (rest d)
    ]
    go Less e rest = elim (head_or x xs v c) [
      | inl same ↦ let equal : var_cmp v x ≡ Equal = subst (λ (w : Var). var_cmp v w ≡ Equal) (sym same) (var_order.self v) in absurd (cc)
      | inr d ↦ let greater : var_cmp v x ≡ Greater = var_order.flip x v (below_known x xs v s.0 d) in absurd (cc)
    ]

-- the variable at a place of a monomial whose variables stand there
pub known_at : (ks : List Var) (m : Powers) (i : ℕ) (v : Var) → AllKeys (Contains ks) m → option_map (λ (p : Var × ℕ). p.0) (slice_get m i) ≡ Some v → Contains ks v
known_at ks [] i v h e = absurd (cc)
known_at ks (p ∷ m) zero v h e = let same : p.0 ≡ v = cc in subst (λ (w : Var). Contains ks w) same h.0
known_at ks (p ∷ m) (suc i) v h e = known_at ks m i v h.1 e

-- LONGER LISTS
pub longer : (ks js : List Var) (m : Powers) → ((v : Var) → Contains ks v → Contains js v) → AllKeys (Contains ks) m → AllKeys (Contains js) m
longer ks js [] more h = tt
longer ks js (p ∷ m) more h = (more p.0 h.0, longer ks js m more h.1)

pub all_names : (ws : List Var) (m : Powers) → ((v : Var) → Contains (names m) v → Contains ws v) → AllKeys (Contains ws) m
all_names ws [] each = tt
all_names ws (p ∷ m) each = (each p.0 (0, omega arith, refl), all_names ws m (λ v c. each v (suc c.0, omega (arith, c.1), c.2)))
