-- What the canonical list keeps: sums over its entries.
use Rattle.std.proofs.Common.{◌≡◌, ℕ, zero, suc, ◌<◌, length, get_or, ◌+◌, ◌≤◌, Bool, true, false, cond, List, [], ◌∷◌, ◌++◌, refl, sym, ap, subst, ◌∙◌, sum_by, arith}
use Rattle.std.specs.declared.cmp.Ordering.{Ordering}
use Rattle.std.specs.declared.cmp.Ordering.TheVariants.{Less, Equal, Greater}
use Rattle.std.proofs.lemmas.List.Sums.{sum_by-cons}
use Rattle.sparse_lists.specs.SparseLists.{Amounts, put, insert_at, insert, canonical, AllKeys, IsKeyOrder, IsAdditive}

module _ {K V : Type 0} (cmp : K → K → Ordering) (A : Amounts V) (order : IsKeyOrder cmp) (adds : IsAdditive A) (f : K × V → ℕ) where
  module _ (f-add : (k : K) (a b : V) → f (k, A.add a b) ≡ f (k, a) + f (k, b)) (f-zero : (k : K) → f (k, A.zero) ≡ 0) where
    sum_by-put : (k : K) (a : V) (ts : List (K × V)) → sum_by f (put A k a ts) ≡ f (k, a) + sum_by f ts
    sum_by-put k a ts = go (A.is_zero a) refl
      where
        go : (z : Bool) → A.is_zero a ≡ z → sum_by f (cond z ts ((k, a) ∷ ts)) ≡ f (k, a) + sum_by f ts
        go true e =
            let nothing : f (k, a) ≡ 0 = ap (λ (b : V). f (k, b)) (adds.zero_is a e) ∙ f-zero k in
            omega arith
        go false e = sum_by-cons f (k, a) ts

    sum_by-insert : (k : K) (a : V) (ts : List (K × V)) → sum_by f (insert cmp A k a ts) ≡ f (k, a) + sum_by f ts
    sum_by-insert k a [] = sum_by-put k a []
    sum_by-insert k a (t ∷ ts) = go (cmp k t.0) refl (sum_by-insert k a ts)
      where
        go : (o : Ordering) → cmp k t.0 ≡ o → sum_by f (insert cmp A k a ts) ≡ f (k, a) + sum_by f ts → sum_by f (insert_at A o k a t ts (insert cmp A k a ts)) ≡ f (k, a) + sum_by f (t ∷ ts)
        go Less e rest = sum_by-put k a (t ∷ ts)
        go Equal e rest =
            let keys : f (k, t.1) ≡ f t = ap (λ (x : K). f (x, t.1)) (order.exact k t.0 e) in
            omega (arith, sum_by-put k (A.add a t.1) ts, f-add k a t.1, sum_by-cons f t ts)
        go Greater e rest = omega (arith, sum_by-cons f t (insert cmp A k a ts), sum_by-cons f t ts)

    -- a sum over the entries, of numbers that add up as the amounts do, is that over the canonical list
    pub sum_by-canonical : (ts : List (K × V)) → sum_by f (canonical cmp A ts) ≡ sum_by f ts
    sum_by-canonical [] = refl
    sum_by-canonical (t ∷ ts) = omega (arith, sum_by-insert t.0 t.1 (canonical cmp A ts), sum_by-canonical ts, sum_by-cons f t ts)

  module _ (f-add-le : (k : K) (a b : V) → f (k, A.add a b) ≤ f (k, a) + f (k, b)) where
    sum_by-put-le : (k : K) (a : V) (ts : List (K × V)) → sum_by f (put A k a ts) ≤ f (k, a) + sum_by f ts
    sum_by-put-le k a ts = elim (A.is_zero a) as (λ z. sum_by f (cond z ts ((k, a) ∷ ts)) ≤ f (k, a) + sum_by f ts) [ true ↦ omega arith | false ↦ omega (arith, sum_by-cons f (k, a) ts) ]

    sum_by-insert-le : (k : K) (a : V) (ts : List (K × V)) → sum_by f (insert cmp A k a ts) ≤ f (k, a) + sum_by f ts
    sum_by-insert-le k a [] = sum_by-put-le k a []
    sum_by-insert-le k a (t ∷ ts) = go (cmp k t.0) refl (sum_by-insert-le k a ts)
      where
        go : (o : Ordering) → cmp k t.0 ≡ o → sum_by f (insert cmp A k a ts) ≤ f (k, a) + sum_by f ts → sum_by f (insert_at A o k a t ts (insert cmp A k a ts)) ≤ f (k, a) + sum_by f (t ∷ ts)
        go Less e rest = sum_by-put-le k a (t ∷ ts)
        go Equal e rest =
            let keys : f (k, t.1) ≡ f t = ap (λ (x : K). f (x, t.1)) (order.exact k t.0 e) in
            omega (arith, sum_by-put-le k (A.add a t.1) ts, f-add-le k a t.1, sum_by-cons f t ts)
        go Greater e rest = omega (arith, sum_by-cons f t (insert cmp A k a ts), sum_by-cons f t ts)

    -- of numbers that add up to no less, it is at least that over the canonical list
    pub sum_by-canonical-le : (ts : List (K × V)) → sum_by f (canonical cmp A ts) ≤ sum_by f ts
    sum_by-canonical-le [] = omega arith
    sum_by-canonical-le (t ∷ ts) = omega (arith, sum_by-insert-le t.0 t.1 (canonical cmp A ts), sum_by-canonical-le ts, sum_by-cons f t ts)

module _ {K V : Type 0} (cmp : K → K → Ordering) (A : Amounts V) (P : K → Type 0) where
  AllKeys-put : (k : K) (a : V) (ts : List (K × V)) → P k → AllKeys P ts → AllKeys P (put A k a ts)
  AllKeys-put k a ts h g = elim (A.is_zero a) as (λ z. AllKeys P (cond z ts ((k, a) ∷ ts))) [ true ↦ g | false ↦ (h, g) ]

  AllKeys-insert : (k : K) (a : V) (ts : List (K × V)) → P k → AllKeys P ts → AllKeys P (insert cmp A k a ts)
  AllKeys-insert k a [] h g = AllKeys-put k a [] h g
  AllKeys-insert k a (t ∷ ts) h g =
      elim (cmp k t.0) as (λ o. AllKeys P (insert_at A o k a t ts (insert cmp A k a ts))) [
        | Less ↦ AllKeys-put k a (t ∷ ts) h g
        | Equal ↦ AllKeys-put k (A.add a t.1) ts h g.1
        | Greater ↦ (g.0, AllKeys-insert k a ts h g.1)
      ]

  -- what holds for all keys of a list holds for those of its canonical list
  pub AllKeys-canonical : (ts : List (K × V)) → AllKeys P ts → AllKeys P (canonical cmp A ts)
  AllKeys-canonical [] h = tt
  AllKeys-canonical (t ∷ ts) h = AllKeys-insert t.0 t.1 (canonical cmp A ts) h.0 (AllKeys-canonical ts h.1)

pub AllKeys-append : {K V : Type 0} (P : K → Type 0) (ts us : List (K × V)) → AllKeys P ts → AllKeys P us → AllKeys P (ts ++ us)
AllKeys-append P [] us h g = g
AllKeys-append P (t ∷ ts) us h g = (h.0, AllKeys-append P ts us h.1 g)

pub AllKeys-at : {K V : Type 0} (P : K → Type 0) (ts : List (K × V)) (i : ℕ) (t : K × V) → i < length ts → t ≡ get_or ts i t → AllKeys P ts → P t.0
AllKeys-at P [] i t h e g = absurd (omega arith)
AllKeys-at {K} {V} P (u ∷ us) zero t h e g = subst (λ (x : K × V). P x.0) (sym e) g.0
AllKeys-at P (u ∷ us) (suc i) t h e g = AllKeys-at P us i t (omega arith) e g.1
