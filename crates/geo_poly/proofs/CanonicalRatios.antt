-- The canonical forms of a Pythagoras difference and of a ratio have their values.
use Rattle.std.proofs.Common.{◌≡◌, ℕ, Bool, true, false, cond, eqb, ◌||◌, ◌&&◌, min, max, pos, negsuc, ◌*ℤ◌, Some, None, refl, sym, subst, ◌⊎◌, inl, inr, arith}
use Rattle.std.specs.Ordering.{nat_cmp}
use Rattle.std.specs.declared.cmp.Ordering.{Ordering}
use Rattle.std.specs.declared.cmp.Ordering.TheVariants.{Less, Equal, Greater}
use Rattle.std.proofs.lemmas.Bool.{eqb-true}
use Rattle.std.proofs.lemmas.Cmp.{ranked}
use Rattle.ring_laws.proofs.Laws as Laws
use Rattle.geo_points.specs.declared.ids.PointId.{PointId}
use Rattle.ring_laws.specs.Fraction.{Fraction, Same, whole, negated, times}
use Rattle.geo_points.specs.Points.{Point, pythagoras_difference, ratio, HasRatio}
use Rattle.ring_laws.proofs.Fractions.{fractions}
use Rattle.geo_points.proofs.RatioSigns.{HasRatio-turned_first, HasRatio-turned_last, ratio-turned_first, ratio-turned_last, ratio-one, ratio-null, x_difference-self, y_difference-self}
use Rattle.geo_points.proofs.Signs.{pythagoras_difference-swap, pythagoras_difference-length, pythagoras_difference-first, pythagoras_difference-last}
use Rattle.geo_poly.specs.declared.variables.Var.TheVariants.{R, P}
use Rattle.geo_poly.specs.Canonical.{ordering_sign, lower, higher, is_same_pair, signed_variable, canonical_difference, canonical_ratio}
use Rattle.geo_poly.specs.Canonical.{canon_value, CanonicalDifferenceKeepsValue, CanonicalRatioKeepsValue}

infixr 3 ◌∘◌
◌∘◌ : {a b c : Fraction} → Same a b → Same b c → Same a c
◌∘◌ p q = fractions.same_trans _ _ _ p q

flip : {a b : Fraction} → Same a b → Same b a
flip p = fractions.same_sym _ _ p

plus_one-times : (a : Fraction) → Same a (times (whole (pos 1)) a)
plus_one-times a = flip (fractions.mul_comm (whole (pos 1)) a ∘ fractions.mul-one a)

minus_one-is : whole (negsuc 0) ≡ negated (whole (pos 1))
unfolding whole negated
minus_one-is = refl

minus_one-times : (a : Fraction) → Same (negated a) (times (whole (negsuc 0)) a)
minus_one-times a =
    subst (λ (o : Fraction). Same (negated a) (times o a)) (sym minus_one-is)
    (flip (Laws.neg-mul fractions (whole (pos 1)) a ∘ fractions.neg-same _ _ (flip (plus_one-times a))))

-- TWO NUMBERS IN ORDER
-- the two numbers stand in order
record Upward (a b : ℕ) : Type 0 where
  low : min a b ≡ a
  high : max a b ≡ b

-- they stand in the other order
record Downward (a b : ℕ) : Type 0 where
  low : min a b ≡ b
  high : max a b ≡ a

orders : (a b : ℕ) → Upward a b ⊎ Downward a b
orders a b = go (nat_cmp a b) refl
  where
    go : (o : Ordering) → o ≡ nat_cmp a b → Upward a b ⊎ Downward a b
    go Less e = let h = ranked a b Less e in inl (record { low = omega (arith, h); high = omega (arith, h) })
    go Equal e = let h = ranked a b Equal e in inl (record { low = omega (arith, h); high = omega (arith, h) })
    go Greater e = let h = ranked a b Greater e in inr (record { low = omega (arith, h); high = omega (arith, h) })

module _ (at : ℕ → Point) (number : ℕ → Fraction) where
  -- DIFFERENCES
  module _ (a b c : PointId) where
    abbrev difference : Fraction
    difference = pythagoras_difference (at a.0) (at b.0) (at c.0)

    -- P_ABA, with the lower point at the ends
    squared : a.0 ≡ c.0 → Same difference (pythagoras_difference (at (lower a b).0) (at (higher a b).0) (at (lower a b).0))
    squared e =
        subst (λ n. Same (pythagoras_difference (at a.0) (at b.0) (at n)) (pythagoras_difference (at (lower a b).0) (at (higher a b).0) (at (lower a b).0))) e
        (elim (orders a.0 b.0) [
          | inl up ↦ subst (λ (v : Fraction). Same (pythagoras_difference (at a.0) (at b.0) (at a.0)) v)
              (λ i. pythagoras_difference (at (sym up.low i)) (at (sym up.high i)) (at (sym up.low i))) (fractions.same_refl _)
          | inr down ↦ subst (λ (v : Fraction). Same (pythagoras_difference (at a.0) (at b.0) (at a.0)) v)
              (λ i. pythagoras_difference (at (sym down.low i)) (at (sym down.high i)) (at (sym down.low i)))
              (pythagoras_difference-length (at a.0) (at b.0))
        ])

    -- with its ends sorted
    ends_sorted : Same difference (pythagoras_difference (at (lower a c).0) (at b.0) (at (higher a c).0))
    ends_sorted =
        elim (orders a.0 c.0) [
          | inl up ↦ subst (Same difference) (λ i. pythagoras_difference (at (sym up.low i)) (at b.0) (at (sym up.high i))) (fractions.same_refl difference)
          | inr down ↦ subst (Same difference) (λ i. pythagoras_difference (at (sym down.low i)) (at b.0) (at (sym down.high i))) (pythagoras_difference-swap (at c.0) (at b.0) (at a.0))
        ]

    pub canonical_difference-value : Same difference (canon_value at number (canonical_difference a b c))
    canonical_difference-value = go (eqb a.0 b.0) (eqb b.0 c.0) (eqb a.0 c.0) refl refl refl
      where
        go : (p q r : Bool) → eqb a.0 b.0 ≡ p → eqb b.0 c.0 ≡ q → eqb a.0 c.0 ≡ r
            → Same difference (canon_value at number
            (cond (p || q) (record { sign = pos 0; var = None })
            (record { sign = pos 1; var = Some (cond r (P (lower a b) (higher a b) (lower a b)) (P (lower a c) b (higher a c))) })))
        go true q r e f g = subst (λ n. Same (pythagoras_difference (at a.0) (at n) (at c.0)) (whole (pos 0))) (eqb-true a.0 b.0 e) (pythagoras_difference-first (at a.0) (at c.0))
        go false true r e f g = subst (λ n. Same (pythagoras_difference (at a.0) (at b.0) (at n)) (whole (pos 0))) (eqb-true b.0 c.0 f) (pythagoras_difference-last (at a.0) (at b.0))
        go false false true e f g = squared (eqb-true a.0 c.0 g) ∘ plus_one-times _
        go false false false e f g = ends_sorted ∘ plus_one-times _

  -- RATIOS
  module _ (a b c d : PointId) (h : HasRatio (at a.0) (at b.0) (at c.0) (at d.0)) where
    abbrev quotient : Fraction
    quotient = ratio (at a.0) (at b.0) (at c.0) (at d.0)

    -- the ratio of the sorted pairs
    abbrev sorted : Fraction
    sorted = ratio (at (lower a b).0) (at (higher a b).0) (at (lower c d).0) (at (higher c d).0)

    abbrev HasSorted : Type 0
    HasSorted = HasRatio (at (lower a b).0) (at (higher a b).0) (at (lower c d).0) (at (higher c d).0)

    -- along the numbers of the sorted pairs
    is_sorted : (x y z w : ℕ) → min a.0 b.0 ≡ x → max a.0 b.0 ≡ y → min c.0 d.0 ≡ z → max c.0 d.0 ≡ w → ratio (at x) (at y) (at z) (at w) ≡ sorted
    is_sorted x y z w e f g k = λ i. ratio (at (sym e i)) (at (sym f i)) (at (sym g i)) (at (sym k i))

    has_sorted : (x y z w : ℕ) → min a.0 b.0 ≡ x → max a.0 b.0 ≡ y → min c.0 d.0 ≡ z → max c.0 d.0 ≡ w → HasRatio (at x) (at y) (at z) (at w) → HasSorted
    has_sorted x y z w e f g k has =
        subst (λ (n : ℕ). HasRatio (at n) (at (higher a b).0) (at (lower c d).0) (at (higher c d).0)) (sym e)
        (subst (λ (n : ℕ). HasRatio (at x) (at n) (at (lower c d).0) (at (higher c d).0)) (sym f)
        (subst (λ (n : ℕ). HasRatio (at x) (at y) (at n) (at (higher c d).0)) (sym g)
        (subst (λ (n : ℕ). HasRatio (at x) (at y) (at z) (at n)) (sym k) has)))

    pub canonical_ratio-defined : HasSorted
    canonical_ratio-defined =
        elim (orders a.0 b.0) [
          | inl ab ↦ elim (orders c.0 d.0) [
            | inl cd ↦ has_sorted a.0 b.0 c.0 d.0 ab.low ab.high cd.low cd.high h
            | inr cd ↦ has_sorted a.0 b.0 d.0 c.0 ab.low ab.high cd.low cd.high (HasRatio-turned_last (at a.0) (at b.0) (at c.0) (at d.0) h)
          ]
          | inr ab ↦ elim (orders c.0 d.0) [
            | inl cd ↦ has_sorted b.0 a.0 c.0 d.0 ab.low ab.high cd.low cd.high (HasRatio-turned_first (at a.0) (at b.0) (at c.0) (at d.0) h)
            | inr cd ↦ has_sorted b.0 a.0 d.0 c.0 ab.low ab.high cd.low cd.high
                (HasRatio-turned_last (at b.0) (at a.0) (at c.0) (at d.0) (HasRatio-turned_first (at a.0) (at b.0) (at c.0) (at d.0) h))
          ]
        ]

    -- pairs of the same points have the ratio 1
    sorted-one : is_same_pair a b c d ≡ true → Same sorted (whole (pos 1))
    sorted-one e =
        let low : min c.0 d.0 ≡ min a.0 b.0 = sym (eqb-true (min a.0 b.0) (min c.0 d.0) (both_true (eqb (min a.0 b.0) (min c.0 d.0)) (eqb (max a.0 b.0) (max c.0 d.0)) e).0) in
        let high : max c.0 d.0 ≡ max a.0 b.0 = sym (eqb-true (max a.0 b.0) (max c.0 d.0) (both_true (eqb (min a.0 b.0) (min c.0 d.0)) (eqb (max a.0 b.0) (max c.0 d.0)) e).1) in
        let has : HasRatio (at (lower a b).0) (at (higher a b).0) (at (lower a b).0) (at (higher a b).0) =
        subst (λ (n : ℕ). HasRatio (at (lower a b).0) (at (higher a b).0) (at (lower a b).0) (at n)) high
        (subst (λ (n : ℕ). HasRatio (at (lower a b).0) (at (higher a b).0) (at n) (at (higher c d).0)) low canonical_ratio-defined) in
        subst (λ (v : Fraction). Same v (whole (pos 1))) (λ i. ratio (at (lower a b).0) (at (higher a b).0) (at (sym low i)) (at (sym high i)))
        (ratio-one (at (lower a b).0) (at (higher a b).0) has)
      where
        both_true : (p q : Bool) → (p && q) ≡ true → (p ≡ true) × (q ≡ true)
        both_true true q e = (refl, e)
        both_true false q e = absurd (cc)

    even : Same quotient sorted → (same : Bool) → is_same_pair a b c d ≡ same
        → Same quotient (canon_value at number (cond same (record { sign = pos 1; var = None }) (record { sign = pos 1; var = Some (R (lower a b) (higher a b) (lower c d) (higher c d)) })))
    even k true e = k ∘ sorted-one e
    even k false e = k ∘ plus_one-times sorted

    odd : Same quotient (negated sorted) → (same : Bool) → is_same_pair a b c d ≡ same
        → Same quotient (canon_value at number (cond same (record { sign = negsuc 0; var = None }) (record { sign = negsuc 0; var = Some (R (lower a b) (higher a b) (lower c d) (higher c d)) })))
    odd k true e = k ∘ fractions.neg-same _ _ (sorted-one e) ∘ subst (λ (v : Fraction). Same (negated (whole (pos 1))) v) (sym minus_one-is) (fractions.same_refl _)
    odd k false e = k ∘ minus_one-times sorted

    null : a.0 ≡ b.0 → Same quotient (whole (pos 0))
    null e =
        let P : ℕ → Type 0 = λ n. HasRatio (at a.0) (at n) (at c.0) (at d.0) in
        subst (λ n. Same (ratio (at a.0) (at n) (at c.0) (at d.0)) (whole (pos 0))) e (ratio-null (at a.0) (at c.0) (at d.0) (subst P (sym e) h))

    none : a.0 ≡ b.0 → (same : Bool)
        → Same quotient (canon_value at number (cond same (record { sign = pos 0; var = None }) (record { sign = pos 0; var = None })))
    none e true = null e
    none e false = null e

    -- a ratio over one point twice is not defined
    apart : c.0 ≡ d.0 → ⊥
    apart e =
        let has : HasRatio (at a.0) (at b.0) (at c.0) (at c.0) = subst (λ (n : ℕ). HasRatio (at a.0) (at b.0) (at c.0) (at n)) (sym e) h in
        has.apart (x_difference-self (at c.0)) (y_difference-self (at c.0))

    by_orders : (o p : Ordering) → o ≡ nat_cmp a.0 b.0 → p ≡ nat_cmp c.0 d.0 → (same : Bool) → is_same_pair a b c d ≡ same
        → Same quotient (canon_value at number
        (cond same (record { sign = ordering_sign o *ℤ ordering_sign p; var = None })
        (signed_variable (ordering_sign o *ℤ ordering_sign p) (R (lower a b) (higher a b) (lower c d) (higher c d)))))
    by_orders Less Equal e f same s = absurd (apart (ranked c.0 d.0 Equal f))
    by_orders Equal Equal e f same s = absurd (apart (ranked c.0 d.0 Equal f))
    by_orders Greater Equal e f same s = absurd (apart (ranked c.0 d.0 Equal f))
    by_orders Equal Less e f same s = none (ranked a.0 b.0 Equal e) same
    by_orders Equal Greater e f same s = none (ranked a.0 b.0 Equal e) same
    by_orders Less Less e f same s =
        let ab = ranked a.0 b.0 Less e in let cd = ranked c.0 d.0 Less f in
        even (subst (Same quotient) (is_sorted a.0 b.0 c.0 d.0 (omega (arith, ab)) (omega (arith, ab)) (omega (arith, cd)) (omega (arith, cd))) (fractions.same_refl quotient)) same s
    by_orders Less Greater e f same s =
        let ab = ranked a.0 b.0 Less e in let cd = ranked c.0 d.0 Greater f in
        odd (subst (λ (v : Fraction). Same quotient (negated v)) (is_sorted a.0 b.0 d.0 c.0 (omega (arith, ab)) (omega (arith, ab)) (omega (arith, cd)) (omega (arith, cd)))
        (ratio-turned_last (at a.0) (at b.0) (at c.0) (at d.0) h)) same s
    by_orders Greater Less e f same s =
        let ab = ranked a.0 b.0 Greater e in let cd = ranked c.0 d.0 Less f in
        odd (subst (λ (v : Fraction). Same quotient (negated v)) (is_sorted b.0 a.0 c.0 d.0 (omega (arith, ab)) (omega (arith, ab)) (omega (arith, cd)) (omega (arith, cd)))
        (ratio-turned_first (at a.0) (at b.0) (at c.0) (at d.0) h)) same s
    by_orders Greater Greater e f same s =
        let ab = ranked a.0 b.0 Greater e in let cd = ranked c.0 d.0 Greater f in
        even (subst (Same quotient) (is_sorted b.0 a.0 d.0 c.0 (omega (arith, ab)) (omega (arith, ab)) (omega (arith, cd)) (omega (arith, cd)))
        (ratio-turned_first (at a.0) (at b.0) (at c.0) (at d.0) h
        ∘ fractions.neg-same _ _ (ratio-turned_last (at b.0) (at a.0) (at c.0) (at d.0) (HasRatio-turned_first (at a.0) (at b.0) (at c.0) (at d.0) h))
        ∘ Laws.neg-neg fractions _)) same s

    pub canonical_ratio-value : Same quotient (canon_value at number (canonical_ratio a b c d))
    canonical_ratio-value = by_orders (nat_cmp a.0 b.0) (nat_cmp c.0 d.0) refl refl (is_same_pair a b c d) refl

pub differences_keep : CanonicalDifferenceKeepsValue
differences_keep at number a b c = canonical_difference-value at number a b c

pub ratios_keep : CanonicalRatioKeepsValue
ratios_keep at number a b c d h = (canonical_ratio-value at number a b c d h, canonical_ratio-defined at number a b c d h)
