-- A search for a variable that does not find it.
use Rattle.std.proofs.Common.{◌≡◌, ℕ, List, get_or, sym, ap, ◌∙◌, inl, inr, arith}
use Rattle.std.specs.Prelude.{Contains}
use Rattle.std.specs.List.Sorted.{IsPartitionPoint}
use Rattle.std.specs.declared.cmp.Ordering.TheVariants.{Less, Equal, Greater}
use Rattle.std.proofs.lemmas.Bool.{cases_lt}
use Rattle.geo_poly.specs.declared.variables.Var.{Var}
use Rattle.geo_poly.specs.Variables.{var_cmp}
use Rattle.geo_poly.proofs.Orders.{var_order}

pub not_found : {P : Type 0} (vars : List Var) (v : Var) (i : ℕ) → Contains vars v → IsPartitionPoint (λ y. var_cmp y v ≡ Less) (λ y. var_cmp y v ≡ Greater) vars i → P
not_found vars v i known h =
    let here : get_or vars known.0 v ≡ v = known.2 in
    let same : var_cmp (get_or vars known.0 v) v ≡ Equal = ap (λ (w : Var). var_cmp w v) here ∙ var_order.self v in
    elim (cases_lt known.0 i) [
      | inl before ↦ absurd (let e : Less ≡ Equal = sym (h.0 known.0 v (omega arith) before) ∙ same in cc)
      | inr after ↦ absurd (let e : Greater ≡ Equal = sym (h.1 known.0 v after known.1) ∙ same in cc)
    ]
