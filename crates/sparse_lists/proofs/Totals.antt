-- The total of a list in a commutative monoid is that of its canonical list.
use Rattle.std.proofs.Common.{◌≡◌, Bool, true, false, cond, List, [], ◌∷◌, ◌++◌, refl, sym, subst}
use Rattle.std.specs.declared.cmp.Ordering.{Ordering}
use Rattle.std.specs.declared.cmp.Ordering.TheVariants.{Less, Equal, Greater}
use Rattle.ring_laws.specs.Ring.{Ring}
use Rattle.sparse_lists.specs.SparseLists.{Amounts, put, insert_at, insert, canonical, IsKeyOrder, IsAdditive}

-- a commutative monoid up to an equivalence of its own
pub record Monoid : Type 1 where
  pub carrier : Type 0
  pub same : carrier → carrier → Type 0
  pub unit : carrier
  pub op : carrier → carrier → carrier
  pub same_refl : (a : carrier) → same a a
  pub same_sym : (a b : carrier) → same a b → same b a
  pub same_trans : (a b c : carrier) → same a b → same b c → same a c
  pub op-same : (a b c d : carrier) → same a b → same c d → same (op a c) (op b d)
  pub op_comm : (a b : carrier) → same (op a b) (op b a)
  pub op_assoc : (a b c : carrier) → same (op (op a b) c) (op a (op b c))
  pub op-unit : (a : carrier) → same (op a unit) a

-- a ring by its sum
abbrev pub additive : Ring → Monoid
additive R = record {
  carrier = R.carrier;
  same = R.same;
  unit = R.zero;
  op = R.add;
  same_refl = R.same_refl;
  same_sym = R.same_sym;
  same_trans = R.same_trans;
  op-same = R.add-same;
  op_comm = R.add_comm;
  op_assoc = R.add_assoc;
  op-unit = R.add-zero;
}

-- a ring by its product
abbrev pub multiplicative : Ring → Monoid
multiplicative R = record {
  carrier = R.carrier;
  same = R.same;
  unit = R.one;
  op = R.mul;
  same_refl = R.same_refl;
  same_sym = R.same_sym;
  same_trans = R.same_trans;
  op-same = R.mul-same;
  op_comm = R.mul_comm;
  op_assoc = R.mul_assoc;
  op-unit = R.mul-one;
}

-- the f x of all entries x, put together
abbrev pub total : (M : Monoid) → {X : Type 0} → (X → M.carrier) → List X → M.carrier
total M f [] = M.unit
total M f (x ∷ xs) = M.op (f x) (total M f xs)

module _ (M : Monoid) where
  open M use {carrier, same as ◌≈◌, op as ◌·◌, unit}

  infix 4 ◌≈◌
  infixl 7 ◌·◌
  infixr 3 ◌∘◌
  ◌∘◌ : {a b c : carrier} → a ≈ b → b ≈ c → a ≈ c
  ◌∘◌ p q = M.same_trans _ _ _ p q

  flip : {a b : carrier} → a ≈ b → b ≈ a
  flip p = M.same_sym _ _ p

  self : {a : carrier} → a ≈ a
  self {a} = M.same_refl a

  both : {a b c d : carrier} → a ≈ b → c ≈ d → a · c ≈ b · d
  both p q = M.op-same _ _ _ _ p q

  unit-op : (a : carrier) → unit · a ≈ a
  unit-op a = M.op_comm unit a ∘ M.op-unit a

  left_comm : (a b c : carrier) → a · (b · c) ≈ b · (a · c)
  left_comm a b c = flip (M.op_assoc a b c) ∘ both (M.op_comm a b) self ∘ M.op_assoc b a c

  pub total-append : {X : Type 0} (f : X → carrier) (xs ys : List X) → total M f (xs ++ ys) ≈ total M f xs · total M f ys
  total-append f [] ys = flip (unit-op (total M f ys))
  total-append f (x ∷ xs) ys = both self (total-append f xs ys) ∘ flip (M.op_assoc (f x) (total M f xs) (total M f ys))

  module _ {K V : Type 0} (cmp : K → K → Ordering) (A : Amounts V) (order : IsKeyOrder cmp) (adds : IsAdditive A) (f : K × V → carrier)
      (f-add : (k : K) (a b : V) → f (k, A.add a b) ≈ f (k, a) · f (k, b)) (f-zero : (k : K) → f (k, A.zero) ≈ unit) where
    total-put : (k : K) (a : V) (ts : List (K × V)) → total M f (put A k a ts) ≈ f (k, a) · total M f ts
    total-put k a ts = go (A.is_zero a) refl
      where
        go : (z : Bool) → A.is_zero a ≡ z → total M f (cond z ts ((k, a) ∷ ts)) ≈ f (k, a) · total M f ts
        go true e = flip (both (subst (λ (b : V). f (k, b) ≈ unit) (sym (adds.zero_is a e)) (f-zero k)) self ∘ unit-op (total M f ts))
        go false e = self

    total-insert : (k : K) (a : V) (ts : List (K × V)) → total M f (insert cmp A k a ts) ≈ f (k, a) · total M f ts
    total-insert k a [] = total-put k a []
    total-insert k a (t ∷ ts) = go (cmp k t.0) refl (total-insert k a ts)
      where
        go : (o : Ordering) → cmp k t.0 ≡ o → total M f (insert cmp A k a ts) ≈ f (k, a) · total M f ts → total M f (insert_at A o k a t ts (insert cmp A k a ts)) ≈ f (k, a) · total M f (t ∷ ts)
        go Less e rest = total-put k a (t ∷ ts)
        go Equal e rest =
            total-put k (A.add a t.1) ts ∘ both (f-add k a t.1) self ∘ M.op_assoc (f (k, a)) (f (k, t.1)) (total M f ts)
            ∘ both self (both (subst (λ (x : K). f (k, t.1) ≈ f (x, t.1)) (order.exact k t.0 e) self) self)
        go Greater e rest = both self rest ∘ left_comm (f t) (f (k, a)) (total M f ts)

    -- what f makes of a list and of its canonical list is the same, where f turns sums of amounts into the monoid's operation
    pub total-canonical : (ts : List (K × V)) → total M f (canonical cmp A ts) ≈ total M f ts
    total-canonical [] = self
    total-canonical (t ∷ ts) = total-insert t.0 t.1 (canonical cmp A ts) ∘ both self (total-canonical ts)
