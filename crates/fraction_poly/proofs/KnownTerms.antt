-- What is known of the terms of a store stays true when more becomes known.
use Rattle.std.proofs.Common.{◌≡◌, ℕ, Bool, true, false, cond, HashMap, List, nat_eq, Some, IsSome, refl, sym, ap, subst, ◌∙◌, arith}
use Rattle.std.specs.HashMap.{Updates, get}
use Rattle.std.specs.Map.{lookup}
use Rattle.geo_points.specs.declared.ids.TermId.{TermId}

eq_at : (a b : ℕ) → nat_eq a b ≡ true → a ≡ b
eq_at a b h = grind (arith, h)

module _ {V S : Type 0} (old new : HashMap ℕ V S) where
  -- one more is known
  pub each_put : (id : TermId) (w : V) → Updates nat_eq old new id.0 (Some w) → (f : TermId → V) → w ≡ f id
      → ((r : TermId) (v : V) → get nat_eq old r.0 ≡ Some v → v ≡ f r) → (r : TermId) (v : V) → get nat_eq new r.0 ≡ Some v → v ≡ f r
  each_put id w updates f is each r v at = go (nat_eq id.0 r.0) refl
    where
      go : (b : Bool) → nat_eq id.0 r.0 ≡ b → v ≡ f r
      go true e =
          let here : get nat_eq new r.0 ≡ Some w = updates.0 r.0 ∙ ap (λ b. cond b (Some w) (get nat_eq old r.0)) e in
          let same : v ≡ w = cc in
          same ∙ is ∙ ap f (λ i. record { 0 = eq_at id.0 r.0 e i })
      go false e = each r v (sym (updates.2 r.0 e) ∙ at)

  -- nothing more is
  module _ (same : new.entries ≡ old.entries) where
    pub each_kept : (f : TermId → V) → ((r : TermId) (v : V) → get nat_eq old r.0 ≡ Some v → v ≡ f r) → (r : TermId) (v : V) → get nat_eq new r.0 ≡ Some v → v ≡ f r
    each_kept f each r v at = each r v (sym (ap (λ (es : List (ℕ × V)). lookup (nat_eq r.0) es) same) ∙ at)

    pub some_kept : (k : ℕ) → IsSome (get nat_eq old k) → IsSome (get nat_eq new k)
    some_kept k is = subst IsSome (sym (ap (λ (es : List (ℕ × V)). lookup (nat_eq k) es) same)) is

  -- nor where the map stays as it is
  pub some_same : new ≡ old → (k : ℕ) → IsSome (get nat_eq old k) → IsSome (get nat_eq new k)
  some_same same k is = subst (λ (m : HashMap ℕ V S). IsSome (get nat_eq m k)) (sym same) is
