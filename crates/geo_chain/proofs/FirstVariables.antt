-- The first variable of a kind, where the variables are in order.
use Rattle.std.proofs.Common.{◌≡◌, ℕ, ◌+◌, ◌<◌, ◌≤◌, ⊎_elim, inl, inr, List, Option, Some, Contains, length, refl, sym, ap₂, ◌∙◌, subst, arith}
use Rattle.std.specs.Prelude.{slice_get}
use Rattle.std.specs.List.Sorted.{IsStrictlySortedBy}
use Rattle.std.specs.declared.cmp.Ordering.TheVariants.{Less, Equal}
use Rattle.std.proofs.Math.Nat.{eq-or-lt_of_le}
use Rattle.std.proofs.lemmas.Bool.{cases_lt}
use Rattle.std.proofs.lemmas.Option.{get_or_from_slice_get, slice_get_read, slice_get_within}
use Rattle.geo_poly.specs.declared.variables.Var.{Var}
use Rattle.geo_poly.specs.declared.variables.Var.TheVariants.{R}
use Rattle.geo_poly.specs.Variables.{var_cmp}
use Rattle.geo_poly.proofs.Naming.{rising_at}
use Rattle.geo_poly.proofs.Orders.{var_order}
use Rattle.geo_chain.specs.declared.first.Sought.{Sought}
use Rattle.geo_chain.specs.Inner.Searches.{Fits, IsFirstFitting, NoneFits}

module _ (sought : Sought) (vs : List Var) where
  -- no variable before place i is of the kind
  abbrev pub NoneBefore : ℕ → Type 0
  NoneBefore i = (k : ℕ) (w : Var) → k < i → slice_get vs k ≡ Some w → Fits sought w → ⊥

  same : (k i : ℕ) (w v : Var) → k ≡ i → slice_get vs k ≡ Some w → slice_get vs i ≡ Some v → w ≡ v
  same k i w v d s e =
      let at : slice_get vs i ≡ Some w = subst (λ n. slice_get vs n ≡ Some w) d s in
      let q : ◌≡◌ {A = Option Var} (Some w) (Some v) = sym at ∙ e in cc

  pub one_more : (i : ℕ) (v : Var) → slice_get vs i ≡ Some v → (Fits sought v → ⊥) → NoneBefore i → NoneBefore (i + 1)
  one_more i v e unfit none k w lt s f =
      ⊎_elim (λ (d : k ≡ i). unfit (subst (Fits sought) (same k i w v d s e) f)) (λ (d : k < i). none k w d s f) (eq-or-lt_of_le (omega (arith, lt)))

  pub none_at : (i : ℕ) → length vs ≤ i → NoneBefore i → NoneFits sought vs
  none_at i past none w (k, lt, at) f = none k w (omega (arith, past, lt)) (slice_get_read vs (length vs) k w refl lt (sym at)) f

  not_less : (v w : Var) → var_cmp v w ≡ Less → var_cmp w v ≡ Less → ⊥
  not_less v w one two =
      let less = var_order.trans v w v one two in
      let self = var_order.self v in
      let q : Less ≡ Equal = sym less ∙ self in cc

  pub first_at : (i : ℕ) (v : Var) → IsStrictlySortedBy var_cmp vs → slice_get vs i ≡ Some v → Fits sought v → NoneBefore i → IsFirstFitting sought vs v
  first_at i v rising e fits none = record {
    stands = (i, slice_get_within vs i v e, get_or_from_slice_get vs i v v e);
    fits = fits;
    first = first;
  }
    where
      plain : Var
      plain = R (record { 0 = 0 }) (record { 0 = 0 }) (record { 0 = 0 }) (record { 0 = 0 })

      self : (w : Var) → w ≡ v → var_cmp w v ≡ Less → ⊥
      self w is less =
          let own : var_cmp v v ≡ Less = subst (λ u. var_cmp u v ≡ Less) is less in
          let q : Less ≡ Equal = sym own ∙ var_order.self v in cc

      first : (w : Var) → Contains vs w → Fits sought w → var_cmp w v ≡ Less → ⊥
      first w (k, lt, at) f less =
          let s = slice_get_read vs (length vs) k w refl lt (sym at) in
          elim (cases_lt k i) [
            | inl before ↦ none k w before s f
            | inr from ↦ ⊎_elim (λ (d : i ≡ k). self w (same k i w v (sym d) s e) less)
                (λ (d : i < k). not_less v w
                (sym (ap₂ var_cmp (get_or_from_slice_get vs i v plain e) (get_or_from_slice_get vs k w plain s)) ∙ rising_at vs i k rising d lt) less) (eq-or-lt_of_le from)
          ]
