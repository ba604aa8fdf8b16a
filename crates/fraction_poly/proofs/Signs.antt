-- The signs of quantities in their sorted form.
use Rattle.std.proofs.Common.{◌≡◌, ◌≤◌, Bool, true, false, cond, eqb, ◌||◌, ℤ, pos, ◌*ℤ◌, Some, None, refl, unsigned_abs, arith}
use Rattle.std.proofs.lemmas.Bool.Decides.{nat_tests}
use Rattle.std.specs.Ordering.{nat_cmp}
use Rattle.geo_points.specs.declared.ids.PointId.{PointId}
use Rattle.geo_poly.specs.declared.variables.Var.{Var}
use Rattle.geo_poly.specs.declared.variables.Var.TheVariants.{R}
use Rattle.geo_poly.specs.Canonical.{canonical_area, canonical_difference, canonical_ratio, higher, is_point, is_same_pair, lower}
use Rattle.geo_poly.specs.Canonical.{pair_sign, permutation_sign, signed_variable, sorted_area, sorted_difference}
use Rattle.geo_poly.proofs.SortedForms.{small_product, small_sign}
use Rattle.fraction_poly.specs.Inner.Drafts.{HasSign}

HasSign-signed : (sign : ℤ) (v : Var) → unsigned_abs sign ≤ 1 → HasSign (signed_variable sign v)
HasSign-signed sign v h = go (eqb (unsigned_abs sign) 0) refl
  where
    go : (b : Bool) → eqb (unsigned_abs sign) 0 ≡ b → HasSign (cond b (record { sign = pos 0; var = None }) (record { sign = sign; var = Some v }))
    go true e = (omega arith, tt)
    go false e = (h, λ zero. grind (arith, nat_tests))

pub HasSign-area : (a b c : PointId) → HasSign (canonical_area a b c)
HasSign-area a b c =
    let two = small_product (pair_sign a b) (pair_sign b c) (small_sign (nat_cmp a.0 b.0)) (small_sign (nat_cmp b.0 c.0)) in
    HasSign-signed (permutation_sign a b c) (sorted_area a b c) (small_product (pair_sign a b *ℤ pair_sign b c) (pair_sign a c) two (small_sign (nat_cmp a.0 c.0)))

pub HasSign-difference : (a b c : PointId) → HasSign (canonical_difference a b c)
HasSign-difference a b c =
    elim (is_point a b || is_point b c) as (λ p. HasSign (cond p (record { sign = pos 0; var = None }) (record { sign = pos 1; var = Some (sorted_difference a b c) }))) [
      | true ↦ (omega arith, tt)
      | false ↦ (omega arith, λ zero. absurd (omega arith))
    ]

pub HasSign-ratio : (a b c d : PointId) → HasSign (canonical_ratio a b c d)
HasSign-ratio a b c d =
    let sign = pair_sign a b *ℤ pair_sign c d in
    let small = small_product (pair_sign a b) (pair_sign c d) (small_sign (nat_cmp a.0 b.0)) (small_sign (nat_cmp c.0 d.0)) in
    let v = R (lower a b) (higher a b) (lower c d) (higher c d) in
    elim (is_same_pair a b c d) as (λ p. HasSign (cond p (record { sign = sign; var = None }) (signed_variable sign v))) [
      | true ↦ (small, tt)
      | false ↦ HasSign-signed sign v small
    ]
