-- The canonical form of a signed area has its value.
use Rattle.std.proofs.Common.{◌≡◌, ℕ, pos, negsuc, ◌*ℤ◌, refl, sym, subst, arith}
use Rattle.std.specs.Ordering.{nat_cmp}
use Rattle.std.specs.declared.cmp.Ordering.{Ordering}
use Rattle.std.specs.declared.cmp.Ordering.TheVariants.{Less, Equal, Greater}
use Rattle.std.proofs.lemmas.Cmp.{ranked}
use Rattle.ring_laws.proofs.Laws as Laws
use Rattle.geo_points.specs.declared.ids.PointId.{PointId}
use Rattle.ring_laws.specs.Fraction.{Fraction, Same, whole, negated, times}
use Rattle.geo_points.specs.Points.{Point, signed_area}
use Rattle.ring_laws.proofs.Fractions.{fractions}
use Rattle.geo_points.proofs.Signs.{signed_area-swap, signed_area-turn, signed_area-twice}
use Rattle.geo_poly.specs.Canonical.{ordering_sign, least_of_three, middle_of_three, greatest_of_three, sorted_area, signed_variable, canonical_area, canon_value}

infixr 3 ◌∘◌
◌∘◌ : {a b c : Fraction} → Same a b → Same b c → Same a c
◌∘◌ p q = fractions.same_trans _ _ _ p q

flip : {a b : Fraction} → Same a b → Same b a
flip p = fractions.same_sym _ _ p

plus_one-times : (a : Fraction) → Same a (times (whole (pos 1)) a)
plus_one-times a = flip (fractions.mul_comm (whole (pos 1)) a ∘ fractions.mul-one a)

minus_one-is : whole (negsuc 0) ≡ negated (whole (pos 1))
unfolding whole negated
minus_one-is = refl

minus_one-times : (a : Fraction) → Same (negated a) (times (whole (negsuc 0)) a)
minus_one-times a =
    subst (λ (o : Fraction). Same (negated a) (times o a)) (sym minus_one-is)
    (flip (Laws.neg-mul fractions (whole (pos 1)) a ∘ fractions.neg-same _ _ (flip (plus_one-times a))))

-- SIX ORDERS
even_turned : (A B C : Point) → Same (signed_area A B C) (signed_area C A B)
even_turned A B C = signed_area-turn C A B

even_turned_back : (A B C : Point) → Same (signed_area A B C) (signed_area B C A)
even_turned_back A B C = flip (signed_area-turn A B C)

odd_last : (A B C : Point) → Same (signed_area A B C) (negated (signed_area A C B))
odd_last A B C = signed_area-swap A C B

odd_ends : (A B C : Point) → Same (signed_area A B C) (negated (signed_area C B A))
odd_ends A B C = even_turned A B C ∘ signed_area-swap C B A

odd_first : (A B C : Point) → Same (signed_area A B C) (negated (signed_area B A C))
odd_first A B C = odd_ends A B C ∘ fractions.neg-same _ _ (even_turned_back C B A)

twice_last : (A B : Point) → Same (signed_area A B B) (whole (pos 0))
twice_last A B = even_turned_back A B B ∘ signed_area-twice B A

twice_ends : (A B : Point) → Same (signed_area A B A) (whole (pos 0))
twice_ends A B = signed_area-turn A A B ∘ signed_area-twice A B

module _ (at : ℕ → Point) (number : ℕ → Fraction) (a b c : PointId) where
  abbrev area : Fraction
  area = signed_area (at a.0) (at b.0) (at c.0)

  abbrev low : ℕ
  low = least_of_three a.0 b.0 c.0

  abbrev between : ℕ
  between = middle_of_three a.0 b.0 c.0

  abbrev high : ℕ
  high = greatest_of_three a.0 b.0 c.0

  sorted : (x y z : ℕ) → low ≡ x → between ≡ y → high ≡ z → signed_area (at x) (at y) (at z) ≡ signed_area (at low) (at between) (at high)
  sorted x y z e f g = λ i. signed_area (at (sym e i)) (at (sym f i)) (at (sym g i))

  even : (x y z : ℕ) → low ≡ x → between ≡ y → high ≡ z → Same area (signed_area (at x) (at y) (at z)) → Same area (times (whole (pos 1)) (signed_area (at low) (at between) (at high)))
  even x y z e f g same = subst (Same area) (sorted x y z e f g) same ∘ plus_one-times _

  odd : (x y z : ℕ) → low ≡ x → between ≡ y → high ≡ z → Same area (negated (signed_area (at x) (at y) (at z))) → Same area (times (whole (negsuc 0)) (signed_area (at low) (at between) (at high)))
  odd x y z e f g same = subst (λ (v : Fraction). Same area (negated v)) (sorted x y z e f g) same ∘ minus_one-times _

  first_two : a.0 ≡ b.0 → Same area (whole (pos 0))
  first_two e = subst (λ n. Same (signed_area (at a.0) (at n) (at c.0)) (whole (pos 0))) e (signed_area-twice (at a.0) (at c.0))

  last_two : b.0 ≡ c.0 → Same area (whole (pos 0))
  last_two e = subst (λ n. Same (signed_area (at a.0) (at b.0) (at n)) (whole (pos 0))) e (twice_last (at a.0) (at b.0))

  ends : a.0 ≡ c.0 → Same area (whole (pos 0))
  ends e = subst (λ n. Same (signed_area (at a.0) (at b.0) (at n)) (whole (pos 0))) e (twice_ends (at a.0) (at b.0))

  -- by the orders of the three pairs
  by_orders : (o p q : Ordering) → o ≡ nat_cmp a.0 b.0 → p ≡ nat_cmp b.0 c.0 → q ≡ nat_cmp a.0 c.0
      → Same area (canon_value at number (signed_variable (ordering_sign o *ℤ ordering_sign p *ℤ ordering_sign q) (sorted_area a b c)))
  by_orders Equal Less Less e f g = first_two (ranked a.0 b.0 Equal e)
  by_orders Equal Less Equal e f g = first_two (ranked a.0 b.0 Equal e)
  by_orders Equal Less Greater e f g = first_two (ranked a.0 b.0 Equal e)
  by_orders Equal Equal Less e f g = first_two (ranked a.0 b.0 Equal e)
  by_orders Equal Equal Equal e f g = first_two (ranked a.0 b.0 Equal e)
  by_orders Equal Equal Greater e f g = first_two (ranked a.0 b.0 Equal e)
  by_orders Equal Greater Less e f g = first_two (ranked a.0 b.0 Equal e)
  by_orders Equal Greater Equal e f g = first_two (ranked a.0 b.0 Equal e)
  by_orders Equal Greater Greater e f g = first_two (ranked a.0 b.0 Equal e)
  by_orders Less Equal Less e f g = last_two (ranked b.0 c.0 Equal f)
  by_orders Less Equal Equal e f g = last_two (ranked b.0 c.0 Equal f)
  by_orders Less Equal Greater e f g = last_two (ranked b.0 c.0 Equal f)
  by_orders Greater Equal Less e f g = last_two (ranked b.0 c.0 Equal f)
  by_orders Greater Equal Equal e f g = last_two (ranked b.0 c.0 Equal f)
  by_orders Greater Equal Greater e f g = last_two (ranked b.0 c.0 Equal f)
  by_orders Less Greater Equal e f g = ends (ranked a.0 c.0 Equal g)
  by_orders Greater Less Equal e f g = ends (ranked a.0 c.0 Equal g)
  by_orders Less Less Equal e f g = ends (ranked a.0 c.0 Equal g)
  by_orders Greater Greater Equal e f g = ends (ranked a.0 c.0 Equal g)
  by_orders Less Less Less e f g =
      let ab = ranked a.0 b.0 Less e in let bc = ranked b.0 c.0 Less f in
      even a.0 b.0 c.0 (omega (arith, ab, bc)) (omega (arith, ab, bc)) (omega (arith, ab, bc)) (fractions.same_refl area)
  by_orders Less Less Greater e f g =
      let ab = ranked a.0 b.0 Less e in let bc = ranked b.0 c.0 Less f in let ca = ranked a.0 c.0 Greater g in
      absurd (omega (arith, ab, bc, ca))
  by_orders Less Greater Less e f g =
      let cb = ranked b.0 c.0 Greater f in let ac = ranked a.0 c.0 Less g in
      odd a.0 c.0 b.0 (omega (arith, cb, ac)) (omega (arith, cb, ac)) (omega (arith, cb, ac)) (odd_last (at a.0) (at b.0) (at c.0))
  by_orders Less Greater Greater e f g =
      let ab = ranked a.0 b.0 Less e in let ca = ranked a.0 c.0 Greater g in
      even c.0 a.0 b.0 (omega (arith, ab, ca)) (omega (arith, ab, ca)) (omega (arith, ab, ca)) (even_turned (at a.0) (at b.0) (at c.0))
  by_orders Greater Less Less e f g =
      let ba = ranked a.0 b.0 Greater e in let ac = ranked a.0 c.0 Less g in
      odd b.0 a.0 c.0 (omega (arith, ba, ac)) (omega (arith, ba, ac)) (omega (arith, ba, ac)) (odd_first (at a.0) (at b.0) (at c.0))
  by_orders Greater Less Greater e f g =
      let bc = ranked b.0 c.0 Less f in let ca = ranked a.0 c.0 Greater g in
      even b.0 c.0 a.0 (omega (arith, bc, ca)) (omega (arith, bc, ca)) (omega (arith, bc, ca)) (even_turned_back (at a.0) (at b.0) (at c.0))
  by_orders Greater Greater Less e f g =
      let ba = ranked a.0 b.0 Greater e in let cb = ranked b.0 c.0 Greater f in let ac = ranked a.0 c.0 Less g in
      absurd (omega (arith, ba, cb, ac))
  by_orders Greater Greater Greater e f g =
      let ba = ranked a.0 b.0 Greater e in let cb = ranked b.0 c.0 Greater f in
      odd c.0 b.0 a.0 (omega (arith, ba, cb)) (omega (arith, ba, cb)) (omega (arith, ba, cb)) (odd_ends (at a.0) (at b.0) (at c.0))

  pub canonical_area-value : Same area (canon_value at number (canonical_area a b c))
  canonical_area-value = by_orders (nat_cmp a.0 b.0) (nat_cmp b.0 c.0) (nat_cmp a.0 c.0) refl refl refl
