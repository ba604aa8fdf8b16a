-- Keys of what is left of monomials, where the amounts of the powers are added up.
use Rattle.std.proofs.Common.{◌≡◌, ℕ, ◌+◌, ◌<◌, ◌∷◌, List, Option, None, Some, length, subst}
use Rattle.std.specs.Prelude.{IfSome}
use Rattle.std.specs.List.Sorted.{IsStrictlySortedBy}
use Rattle.mono_store.specs.declared.links.MonoId.{MonoId}
use Rattle.mono_store.specs.Stores.{IsStore, count, monomial_of}
use Rattle.geo_poly.specs.declared.moving.Move.TheVariants.{Kept}
use Rattle.geo_poly.specs.declared.rows.Row.{Row}
use Rattle.geo_poly.specs.declared.shared.Shared.{Shared}
use Rattle.geo_poly.specs.declared.variables.Var.{Var}
use Rattle.geo_poly.specs.Keys.{Keys}
use Rattle.geo_poly.specs.Shared.{var_at}
use Rattle.geo_poly.specs.Variables.{var_cmp}
use Rattle.geo_poly.specs.Inner.Keyed.{IsAmount}
use Rattle.geo_poly.specs.Inner.Moved.{IsMoveOf, IsMovedKey}
use Rattle.geo_poly.proofs.Moved.{is_moved, power_before}

module _ (p : Shared) (rows : List Row) (vars : List Var) (keys : Keys) (id : MonoId) where
  pub same_key : (j k : ℕ) → j ≡ k → IsMovedKey p rows vars keys id j → IsMovedKey p rows vars keys id k
  same_key j k e h = subst (λ (n : ℕ). IsMovedKey p rows vars keys id n) e h

  -- one more power that stays
  pub amount_moves : (next : MonoId) (var exp : ℕ) → monomial_of p.monos.now id ≡ (var, exp) ∷ monomial_of p.monos.now next → id.0 < count p.monos.now
      → var < length p.vars.now → (k : ℕ) → IsMoveOf rows vars (var_at p.vars.now var) (Kept k)
      → IsStrictlySortedBy var_cmp vars → IsStrictlySortedBy var_cmp p.vars.now → IsStore p.monos.now
      → (o : Option ℕ) → IfSome o (IsAmount keys k exp)
      → IfSome o (λ a. (n : ℕ) → IsMovedKey p rows vars keys next n → IsMovedKey p rows vars keys id (n + a))
  amount_moves next var exp unfolds within var_in k is rising old_rising store None h = tt
  amount_moves next var exp unfolds within var_in k is rising old_rising store (Some a) h = λ n same.
      let before = power_before p rows vars id next var exp unfolds within keys (record { 0 = n }) same var_in k is rising old_rising store in
      let there = h n same.new_index.within before.exponent before.first in
      is_moved p rows vars id next var exp unfolds within keys (record { 0 = n }) same var_in k is keys (n + a) there.0 there.1
