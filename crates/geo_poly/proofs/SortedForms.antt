-- Canonical forms are sorted, and sorted variables are canonical.
use Rattle.std.proofs.Common.{◌≡◌, ℕ, ◌*◌, ◌<◌, ◌≤◌, Bool, true, false, cond, eqb, ◌||◌, ◌&&◌, min, max, ℤ, pos, ◌*ℤ◌, Some, None, refl, sym, ap, ◌∙◌, unsigned_abs, arith}
use Rattle.std.specs.Cmp.{nat_cmp_is}
use Rattle.std.specs.Ordering.{nat_cmp}
use Rattle.std.specs.declared.cmp.Ordering.{Ordering}
use Rattle.std.specs.declared.cmp.Ordering.TheVariants.{Less, Equal, Greater}
use Rattle.std.proofs.Math.Nat.{mul-le-mul}
use Rattle.std.proofs.lemmas.Bool.{eqb-false, eqb-true, ne_eqb}
use Rattle.std.proofs.lemmas.Int.{unsigned_abs-mul}
use Rattle.geo_points.specs.declared.ids.PointId.{PointId}
use Rattle.geo_poly.specs.declared.canonical.Canon.{Canon}
use Rattle.geo_poly.specs.declared.variables.Var.{Var}
use Rattle.geo_poly.specs.declared.variables.Var.TheVariants.{R, S, P, X as Abscissa, Y as Ordinate, T as Parameter}
use Rattle.geo_poly.specs.Canonical.{canonical_area, canonical_difference, canonical_ratio, higher, is_same_pair, lower, ordering_sign}
use Rattle.geo_poly.specs.Canonical.{pair_sign, permutation_sign, signed_variable, sorted_area, least_of_three, middle_of_three}
use Rattle.geo_poly.specs.Canonical.{greatest_of_three}
use Rattle.geo_poly.specs.SortedVariables.{CanonicalFormsAreSorted, IsSorted, IsSortedForm, SortedVariablesAreCanonical}

-- SIGNS
pub small_sign : (o : Ordering) → unsigned_abs (ordering_sign o) ≤ 1
small_sign Less = omega arith
small_sign Equal = omega arith
small_sign Greater = omega arith

pub small_product : (y z : ℤ) → unsigned_abs y ≤ 1 → unsigned_abs z ≤ 1 → unsigned_abs (y *ℤ z) ≤ 1
small_product y z h g = omega (arith, unsigned_abs-mul y z, mul-le-mul h g)

-- both factors of a product that is not 0 are not 0
factors_nonzero : (y z : ℤ) → (unsigned_abs (y *ℤ z) ≡ 0 → ⊥) → (unsigned_abs y ≡ 0 → ⊥) × (unsigned_abs z ≡ 0 → ⊥)
factors_nonzero y z n = (
  λ e. n (let zero : unsigned_abs y * unsigned_abs z ≡ 0 * unsigned_abs z = ap (λ k. k * unsigned_abs z) e in omega (arith, unsigned_abs-mul y z, zero)),
  λ e. n (let zero : unsigned_abs y * unsigned_abs z ≡ unsigned_abs y * 0 = ap (λ k. unsigned_abs y * k) e in omega (arith, unsigned_abs-mul y z, zero)),
)

-- points with a sign that is not 0 differ
differ : (a b : PointId) → (unsigned_abs (pair_sign a b) ≡ 0 → ⊥) → a.0 ≡ b.0 → ⊥
differ a b n e = n (ap (λ (o : Ordering). unsigned_abs (ordering_sign o)) (sym (nat_cmp_is a.0 b.0 Equal e)))

-- a sign times a variable
form : (sign : ℤ) (v : Var) → unsigned_abs sign ≤ 1 → ((unsigned_abs sign ≡ 0 → ⊥) → IsSorted v) → IsSortedForm (signed_variable sign v)
form sign v small sorted = go (eqb (unsigned_abs sign) 0) refl
  where
    go : (b : Bool) → eqb (unsigned_abs sign) 0 ≡ b → IsSortedForm (cond b (record { sign = pos 0; var = None }) (record { sign = sign; var = Some v }))
    go true e = record { sign = omega arith; variable = tt; nonzero = tt }
    go false e =
        let n = eqb-false (unsigned_abs sign) 0 e in
        record { sign = small; variable = sorted n; nonzero = λ z. n (ap unsigned_abs z) }

-- CANONICAL FORMS ARE SORTED
area_form : (a b c : PointId) → IsSortedForm (canonical_area a b c)
area_form a b c =
    form (permutation_sign a b c) (sorted_area a b c)
    (small_product (pair_sign a b *ℤ pair_sign b c) (pair_sign a c)
    (small_product (pair_sign a b) (pair_sign b c) (small_sign (nat_cmp a.0 b.0)) (small_sign (nat_cmp b.0 c.0)))
    (small_sign (nat_cmp a.0 c.0)))
    (λ n.
    let whole = factors_nonzero (pair_sign a b *ℤ pair_sign b c) (pair_sign a c) n in
    let front = factors_nonzero (pair_sign a b) (pair_sign b c) whole.0 in
    let ab : a.0 ≡ b.0 → ⊥ = differ a b front.0 in
    let bc : b.0 ≡ c.0 → ⊥ = differ b c front.1 in
    let ac : a.0 ≡ c.0 → ⊥ = differ a c whole.1 in
    (omega (arith, ab, bc, ac), omega (arith, ab, bc, ac)))

none_form : IsSortedForm (record { sign = pos 0; var = None })
none_form = record { sign = omega arith; variable = tt; nonzero = tt }

difference_form : (a b c : PointId) → IsSortedForm (canonical_difference a b c)
difference_form a b c = go (eqb a.0 b.0) (eqb b.0 c.0) (eqb a.0 c.0) refl refl refl
  where
    go : (p q r : Bool) → eqb a.0 b.0 ≡ p → eqb b.0 c.0 ≡ q → eqb a.0 c.0 ≡ r
        → IsSortedForm (cond (p || q) (record { sign = pos 0; var = None }) (record { sign = pos 1; var = Some (cond r (P (lower a b) (higher a b) (lower a b)) (P (lower a c) b (higher a c))) }))
    go true q r e f g = none_form
    go false true r e f g = none_form
    go false false true e f g =
        let ab : a.0 ≡ b.0 → ⊥ = eqb-false a.0 b.0 e in
        record {
          sign = omega arith;
          variable = (omega arith, λ z. omega (arith, ab, z), λ z. omega (arith, ab, z), λ z. omega (arith, ab));
          nonzero = λ z. omega (arith, ap unsigned_abs z);
        }
    go false false false e f g =
        let ab : a.0 ≡ b.0 → ⊥ = eqb-false a.0 b.0 e in
        let bc : b.0 ≡ c.0 → ⊥ = eqb-false b.0 c.0 f in
        let ac : a.0 ≡ c.0 → ⊥ = eqb-false a.0 c.0 g in
        record {
          sign = omega arith;
          variable = (omega arith, λ z. omega (arith, ab, bc, z), λ z. omega (arith, ab, bc, z), λ z. absurd (omega (arith, ac, z)));
          nonzero = λ z. omega (arith, ap unsigned_abs z);
        }

not_both : (x y z w : ℕ) → (eqb x z && eqb y w) ≡ false → (x ≡ z) × (y ≡ w) → ⊥
not_both x y z w = go (eqb x z) (eqb y w) refl refl
  where
    go : (p q : Bool) → eqb x z ≡ p → eqb y w ≡ q → (p && q) ≡ false → (x ≡ z) × (y ≡ w) → ⊥
    go true true e f h same = let q : true ≡ false = h in cc
    go true false e f h same = eqb-false y w f same.1
    go false q e f h same = eqb-false x z e same.0

ratio_form : (a b c d : PointId) → IsSortedForm (canonical_ratio a b c d)
ratio_form a b c d = go (is_same_pair a b c d) refl
  where
    small : unsigned_abs (pair_sign a b *ℤ pair_sign c d) ≤ 1
    small = small_product (pair_sign a b) (pair_sign c d) (small_sign (nat_cmp a.0 b.0)) (small_sign (nat_cmp c.0 d.0))

    go : (same : Bool) → is_same_pair a b c d ≡ same
        → IsSortedForm (cond same (record { sign = pair_sign a b *ℤ pair_sign c d; var = None })
        (signed_variable (pair_sign a b *ℤ pair_sign c d) (R (lower a b) (higher a b) (lower c d) (higher c d))))
    go true e = record { sign = small; variable = tt; nonzero = tt }
    go false e =
        form (pair_sign a b *ℤ pair_sign c d) (R (lower a b) (higher a b) (lower c d) (higher c d)) small
        (λ n.
        let both = factors_nonzero (pair_sign a b) (pair_sign c d) n in
        let ab : a.0 ≡ b.0 → ⊥ = differ a b both.0 in
        let cd : c.0 ≡ d.0 → ⊥ = differ c d both.1 in
        (omega (arith, ab), omega (arith, cd), not_both (lower a b).0 (higher a b).0 (lower c d).0 (higher c d).0 e))

pub forms_are_sorted : CanonicalFormsAreSorted
forms_are_sorted (R a b c d) = ratio_form a b c d
forms_are_sorted (S a b c) = area_form a b c
forms_are_sorted (P a b c) = difference_form a b c
forms_are_sorted (Abscissa a) = record { sign = omega arith; variable = tt; nonzero = λ z. omega (arith, ap unsigned_abs z) }
forms_are_sorted (Ordinate a) = record { sign = omega arith; variable = tt; nonzero = λ z. omega (arith, ap unsigned_abs z) }
forms_are_sorted (Parameter t) = record { sign = omega arith; variable = tt; nonzero = λ z. omega (arith, ap unsigned_abs z) }

-- SORTED VARIABLES ARE CANONICAL
less : (a b : PointId) → a.0 < b.0 → nat_cmp a.0 b.0 ≡ Less
less a b h = sym (nat_cmp_is a.0 b.0 Less h)

area_stays : (a b c : PointId) → IsSorted (S a b c) → canonical_area a b c ≡ record { sign = pos 1; var = Some (S a b c) }
area_stays a b c h =
    let ab = less a b h.0 in
    let bc = less b c h.1 in
    let ac = less a c (let lt : a.0 < c.0 = omega (arith, h.0, h.1) in lt) in
    let low : least_of_three a.0 b.0 c.0 ≡ a.0 = omega (arith, h.0, h.1) in
    let between : middle_of_three a.0 b.0 c.0 ≡ b.0 = omega (arith, h.0, h.1) in
    let high : greatest_of_three a.0 b.0 c.0 ≡ c.0 = omega (arith, h.0, h.1) in
    (λ i. signed_variable (ordering_sign (ab i) *ℤ ordering_sign (bc i) *ℤ ordering_sign (ac i)) (sorted_area a b c))
    ∙ (λ i. record { sign = pos 1; var = Some (S (record { 0 = low i }) (record { 0 = between i }) (record { 0 = high i })) })

-- what the tests make of a difference
abbrev tested : Bool → Bool → Bool → PointId → PointId → PointId → Canon
tested p q r a b c = cond (p || q) (record { sign = pos 0; var = None }) (record { sign = pos 1; var = Some (cond r (P (lower a b) (higher a b) (lower a b)) (P (lower a c) b (higher a c))) })

difference_stays : (a b c : PointId) → IsSorted (P a b c) → canonical_difference a b c ≡ record { sign = pos 1; var = Some (P a b c) }
difference_stays a b c h = (λ i. tested (ab i) (bc i) (eqb a.0 c.0) a b c) ∙ go (eqb a.0 c.0) refl
  where
    ab : eqb a.0 b.0 ≡ false
    ab = ne_eqb a.0 b.0 (λ z. h.1 (sym z))

    bc : eqb b.0 c.0 ≡ false
    bc = ne_eqb b.0 c.0 h.2

    go : (r : Bool) → eqb a.0 c.0 ≡ r → tested false false r a b c ≡ record { sign = pos 1; var = Some (P a b c) }
    go true g =
        let ac : a.0 ≡ c.0 = eqb-true a.0 c.0 g in
        let rising : a.0 < b.0 = h.3 ac in
        let low : min a.0 b.0 ≡ a.0 = omega (arith, rising) in
        let high : max a.0 b.0 ≡ b.0 = omega (arith, rising) in
        let end : min a.0 b.0 ≡ c.0 = omega (arith, rising, ac) in
        λ i. record { sign = pos 1; var = Some (P (record { 0 = low i }) (record { 0 = high i }) (record { 0 = end i })) }
    go false g =
        let low : min a.0 c.0 ≡ a.0 = omega (arith, h.0) in
        let high : max a.0 c.0 ≡ c.0 = omega (arith, h.0) in
        λ i. record { sign = pos 1; var = Some (P (record { 0 = low i }) b (record { 0 = high i })) }

ratio_stays : (a b c d : PointId) → IsSorted (R a b c d) → canonical_ratio a b c d ≡ record { sign = pos 1; var = Some (R a b c d) }
ratio_stays a b c d h =
    let ab = less a b h.0 in
    let cd = less c d h.1 in
    let low : min a.0 b.0 ≡ a.0 = omega (arith, h.0) in
    let high : max a.0 b.0 ≡ b.0 = omega (arith, h.0) in
    let from : min c.0 d.0 ≡ c.0 = omega (arith, h.1) in
    let to : max c.0 d.0 ≡ d.0 = omega (arith, h.1) in
    let apart : is_same_pair a b c d ≡ false = go (is_same_pair a b c d) refl low high from to in
    (λ i. cond (apart i) (record { sign = ordering_sign (ab i) *ℤ ordering_sign (cd i); var = None })
    (signed_variable (ordering_sign (ab i) *ℤ ordering_sign (cd i)) (R (lower a b) (higher a b) (lower c d) (higher c d))))
    ∙ (λ i. record { sign = pos 1; var = Some (R (record { 0 = low i }) (record { 0 = high i }) (record { 0 = from i }) (record { 0 = to i })) })
  where
    both : (p q : Bool) → (p && q) ≡ true → (p ≡ true) × (q ≡ true)
    both true q e = (refl, e)
    both false q e = absurd (cc)

    go : (same : Bool) → is_same_pair a b c d ≡ same → min a.0 b.0 ≡ a.0 → max a.0 b.0 ≡ b.0 → min c.0 d.0 ≡ c.0 → max c.0 d.0 ≡ d.0 → same ≡ false
    go false e low high from to = refl
    go true e low high from to =
        let tests = both (eqb (min a.0 b.0) (min c.0 d.0)) (eqb (max a.0 b.0) (max c.0 d.0)) e in
        absurd (h.2 (sym low ∙ eqb-true (min a.0 b.0) (min c.0 d.0) tests.0 ∙ from, sym high ∙ eqb-true (max a.0 b.0) (max c.0 d.0) tests.1 ∙ to))

pub sorted_stay : SortedVariablesAreCanonical
sorted_stay (R a b c d) h = ratio_stays a b c d h
sorted_stay (S a b c) h = area_stays a b c h
sorted_stay (P a b c) h = difference_stays a b c h
sorted_stay (Abscissa a) h = refl
sorted_stay (Ordinate a) h = refl
sorted_stay (Parameter t) h = refl
