-- Variables sorted, and then each once.
use Rattle.std.proofs.Common.{◌≡◌, true, List, [], refl, sym, subst}
use Rattle.std.specs.Prelude.{Contains}
use Rattle.std.specs.Cmp.{Equal-is, IsTotalOrder}
use Rattle.std.specs.List.Retain.{DiffersFromLast, IsFiltered}
use Rattle.std.specs.List.Sorted.{IsPermutation, IsSorted, IsStrictlySortedBy}
use Rattle.std.specs.Ordering.{eq_by_cmp}
use Rattle.std.proofs.lemmas.Cmp.{eq_by_cmp_equiv, nat_list_cmp_total, on_total}
use Rattle.std.proofs.lemmas.List.Filters.{dedup_is}
use Rattle.std.proofs.lemmas.List.Kept.{Contains-dedup, IsStrictlySortedBy-dedup}
use Rattle.std.proofs.lemmas.List.Sorted.{Contains-permutation}
use Rattle.geo_poly.specs.declared.variables.Var.{Var}
use Rattle.geo_poly.specs.Variables.{rank, var_cmp}
use Rattle.geo_poly.proofs.Orders.{var_order}

total : IsTotalOrder var_cmp
total = on_total rank nat_list_cmp_total

same : (v w : Var) → eq_by_cmp var_cmp v w ≡ true → v ≡ w
same v w e = var_order.exact v w ((Equal-is (var_cmp v w)).0 e)

module _ (sorted once : List Var) (left : IsFiltered (DiffersFromLast (eq_by_cmp var_cmp)) [] sorted once) where
  pub once_rises : IsSorted var_cmp sorted → IsStrictlySortedBy var_cmp once
  once_rises h = subst (IsStrictlySortedBy var_cmp) (sym (dedup_is (eq_by_cmp var_cmp) sorted once left)) (IsStrictlySortedBy-dedup total (λ v w. refl) sorted h)

  pub once_has : (vs : List Var) → IsPermutation vs sorted → (v : Var) → Contains vs v → Contains once v
  once_has vs moved v h =
      subst (λ (ws : List Var). Contains ws v) (sym (dedup_is (eq_by_cmp var_cmp) sorted once left))
      (Contains-dedup (eq_by_cmp_equiv total) same sorted v (Contains-permutation vs sorted v moved h))
