-- What is reckoned is refused or not: for each turn of an evaluation it is decided whether a number of it is too large, and whether it
-- comes out as it should.
use Rattle.std.proofs.Common.{◌≡◌, ℕ, zero, suc, ◌*◌, ◌<◌, ◌≤◌, ◌^◌, ℤ, pos, negsuc, ◌+ℤ◌, ◌*ℤ◌, unsigned_abs, ◌⊎◌, inl, inr, ⊎_elim, refl, sym, subst, mul-pos, arith}
use Rattle.std.specs.Prelude.{◌/◌}
use Rattle.std.specs.Int.{IsGcd}
use Rattle.std.proofs.lemmas.Bool.{cases_lt}
use Rattle.std.proofs.lemmas.Nat.Gcd.{same_from_IsGcd}
use Rattle.ring_laws.specs.Fraction.{Fraction, IsNonzero, Same, whole}
use Rattle.ring_laws.proofs.Fractions.{fractions}
use Rattle.ring_laws.proofs.Quotients.{same_of_zero, zero_of_same}
use Rattle.frac_laws.specs.declared.frac.Frac.{Frac}
use Rattle.frac_laws.specs.Lowest.{IsPast}
use Rattle.frac_laws.specs.Numbers.{AreSomePast, IsNumber, IsProductTooLarge, IsSumTooLarge, fraction_of}
use Rattle.frac_laws.proofs.LowestTerms.{lowest_terms_are_unique}
use Rattle.geo_points.specs.Placements.{Placement, SamePoint}
use Rattle.geo_points.specs.Points.{Point}
use Rattle.geo_points.proofs.Same.{flip_point, point_trans}
use Rattle.geo_program.specs.WellFormed.{Source}
use Rattle.geo_place.specs.Evaluation.{IsLeast, IsRight, IsTriplePast, Turn, TurnOverflows, judge, judged, make, test, tested, write}
use Rattle.geo_place.specs.Formulas.{step_spot}
use Rattle.geo_place.specs.Reckonings.{IsProductRefused, IsSumRefused, Overflows, Reckoning, inverse, known, number, opposite, ◌⊕◌, ◌⊗◌}
use Rattle.geo_place.proofs.LeastTriples.{LowestTerms, divisor_exists, least_exists, least_once, lowest_terms}
use Rattle.geo_place.proofs.ResultLaws.{once, product_refused, same_of, sum_refused}

-- DECISIONS
-- it holds or it does not
abbrev pub Decided : Type 0 → Type 0
Decided A = A ⊎ (A → ⊥)

or_else : {A B : Type 0} → Decided A → Decided B → Decided (A ⊎ B)
or_else (inl a) d = inl (inl a)
or_else (inr n) (inl b) = inl (inr b)
or_else (inr n) (inr m) = inr (λ h. ⊎_elim n m h)

decided_by : {A B : Type 0} → (A → B) → (B → A) → Decided A → Decided B
decided_by f g (inl a) = inl (f a)
decided_by f g (inr n) = inr (λ b. n (g b))

past_decided : (z : ℤ) → Decided (IsPast z)
past_decided z = by (cases_lt (unsigned_abs z) (2 ^ 127))
  where
    by : (unsigned_abs z < 2 ^ 127) ⊎ (2 ^ 127 ≤ unsigned_abs z) → Decided (IsPast z)
    by (inl l) = inr (λ h. omega (arith, l, h))
    by (inr h) = inl h

zero_decided : (z : ℤ) → Decided (z ≡ pos 0)
zero_decided (pos zero) = inl refl
zero_decided (pos (suc n)) = inr (λ e. absurd cc)
zero_decided (negsuc n) = inr (λ e. absurd cc)

nonzero_decided : (a : Fraction) → Decided (IsNonzero a)
nonzero_decided a = by (zero_decided a.numerator)
  where
    by : Decided (a.numerator ≡ pos 0) → Decided (IsNonzero a)
    by (inl e) = inr (λ n. n e)
    by (inr n) = inl n

null_decided : (a : Fraction) → Decided (Same a (whole (pos 0)))
null_decided a = decided_by (same_of_zero a) (zero_of_same a) (zero_decided a.numerator)

-- NUMBERS
-- the number in lowest terms, where it is one of 128 bits
abbrev IsFound : Fraction → Type 0
IsFound a = (r : Frac) × IsNumber r a

found_decided : (a : Fraction) → Decided (IsFound a)
unfolding fraction_of
found_decided a = by (cases_lt (unsigned_abs l.top) (2 ^ 127))
  where
    l : LowestTerms a.numerator a.denominator
    l = lowest_terms a.numerator a.denominator a.positive

    lowest : Fraction
    lowest = record { numerator = l.top; denominator = l.bottom; positive = l.positive }

    one : (r : Frac) → IsNumber r a → r.num ≡ l.top
    one r h =
        let e : Same (fraction_of r) lowest = fractions.same_trans _ _ _ (same_of r a h) (fractions.same_sym _ _ (record { crossed = l.same })) in
        (lowest_terms_are_unique.unique r.num l.top (unsigned_abs r.den) l.bottom r.nonzero l.positive r.lowest l.lowest e.crossed).0

    by : (unsigned_abs l.top < 2 ^ 127) ⊎ (2 ^ 127 ≤ unsigned_abs l.top) → Decided (IsFound a)
    by (inl short) =
        inl (record { num = l.top; den = pos l.bottom; fits = short; positive = refl; nonzero = l.positive; lowest = l.lowest }, record { crossed = l.same })
    by (inr long) =
        inr (λ h.
        let fits : unsigned_abs h.0.num < 2 ^ 127 = h.0.fits in
        let short : unsigned_abs l.top < 2 ^ 127 = subst (λ (z : ℤ). unsigned_abs z < 2 ^ 127) (one h.0 h.1) fits in
        omega (arith, short, long))

-- SUMS AND PRODUCTS
some_past_decided : (left right den : ℤ) → Decided (AreSomePast left right den)
some_past_decided left right den = or_else (past_decided left) (or_else (past_decided right) (or_else (past_decided (left +ℤ right)) (past_decided den)))

-- one of the numbers of a sum is too large, with this common divisor
abbrev PastBy : Frac → Frac → ℕ → Type 0
PastBy f h g = AreSomePast (f.num *ℤ pos (unsigned_abs h.den / g)) (h.num *ℤ pos (unsigned_abs f.den / g)) (f.den *ℤ pos (unsigned_abs h.den / g))

too_large_sum : (f h : Frac) → Decided (IsSumTooLarge f h)
too_large_sum f h =
    decided_by (λ p. (d.0, d.1, p)) back
    (some_past_decided (f.num *ℤ pos (unsigned_abs h.den / d.0)) (h.num *ℤ pos (unsigned_abs f.den / d.0)) (f.den *ℤ pos (unsigned_abs h.den / d.0)))
  where
    d : (g : ℕ) × IsGcd (unsigned_abs f.den) (unsigned_abs h.den) g
    d = divisor_exists (unsigned_abs f.den) (unsigned_abs h.den)

    back : IsSumTooLarge f h → PastBy f h d.0
    back k = subst (PastBy f h) (same_from_IsGcd (unsigned_abs f.den) (unsigned_abs h.den) k.0 d.0 k.1 d.1) k.2

too_large_product : (f h : Frac) → Decided (IsProductTooLarge f h)
too_large_product f h = decided_by there back (or_else (past_decided l.top) (past_decided (pos l.bottom)))
  where
    w : ℕ
    w = unsigned_abs f.den * unsigned_abs h.den

    w_some : 1 ≤ w
    w_some = mul-pos f.nonzero h.nonzero

    l : LowestTerms (f.num *ℤ h.num) w
    l = lowest_terms (f.num *ℤ h.num) w w_some

    wide : f.den *ℤ h.den ≡ pos w
    wide i = f.positive i *ℤ h.positive i

    there : IsPast l.top ⊎ IsPast (pos l.bottom) → IsProductTooLarge f h
    there p = (l.top, l.bottom, l.lowest, l.positive, subst (λ (z : ℤ). l.top *ℤ z ≡ f.num *ℤ h.num *ℤ pos l.bottom) (sym wide) l.same, p)

    product : Fraction
    product = record { numerator = f.num *ℤ h.num; denominator = w; positive = w_some }

    back : IsProductTooLarge f h → IsPast l.top ⊎ IsPast (pos l.bottom)
    back k =
        let told : Fraction = record { numerator = k.0; denominator = k.1; positive = k.3 } in
        let lowest : Fraction = record { numerator = l.top; denominator = l.bottom; positive = l.positive } in
        let first : Same told product = record { crossed = subst (λ (z : ℤ). k.0 *ℤ z ≡ f.num *ℤ h.num *ℤ pos k.1) wide k.4 } in
        let second : Same lowest product = record { crossed = l.same } in
        let e : Same told lowest = fractions.same_trans _ _ _ first (fractions.same_sym _ _ second) in
        let one = lowest_terms_are_unique.unique k.0 l.top k.1 l.bottom k.3 l.positive k.2 l.lowest e.crossed in
        subst (λ (n : ℕ). IsPast l.top ⊎ IsPast (pos n)) one.1 (subst (λ (z : ℤ). IsPast z ⊎ IsPast (pos k.1)) one.0 k.5)

sum_decided : (a b : Fraction) → Decided (IsSumRefused a b)
sum_decided a b = by (found_decided a) (found_decided b)
  where
    by : Decided (IsFound a) → Decided (IsFound b) → Decided (IsSumRefused a b)
    by (inl f) (inl g) =
        decided_by (λ t. record { left = f.0; right = g.0; is_left = f.1; is_right = g.1; too_large = t })
        (λ k. sum_refused k.left k.right f.0 g.0 (once k.left f.0 a k.is_left f.1) (once k.right g.0 b k.is_right g.1) k.too_large)
        (too_large_sum f.0 g.0)
    by (inl f) (inr n) = inr (λ k. n (k.right, k.is_right))
    by (inr n) d = inr (λ k. n (k.left, k.is_left))

product_decided : (a b : Fraction) → Decided (IsProductRefused a b)
product_decided a b = by (found_decided a) (found_decided b)
  where
    by : Decided (IsFound a) → Decided (IsFound b) → Decided (IsProductRefused a b)
    by (inl f) (inl g) =
        decided_by (λ t. record { left = f.0; right = g.0; is_left = f.1; is_right = g.1; too_large = t })
        (λ k. product_refused k.left k.right f.0 g.0 (once k.left f.0 a k.is_left f.1) (once k.right g.0 b k.is_right g.1) k.too_large)
        (too_large_product f.0 g.0)
    by (inl f) (inr n) = inr (λ k. n (k.right, k.is_right))
    by (inr n) d = inr (λ k. n (k.left, k.is_left))

-- RECKONINGS
pub reckoning_decided : (e : Reckoning) → Decided (Overflows e)
reckoning_decided (known a) = inr (λ h. h)
reckoning_decided (opposite e) = reckoning_decided e
reckoning_decided (inverse e) = reckoning_decided e
reckoning_decided (e ⊕ f) = or_else (reckoning_decided e) (or_else (reckoning_decided f) (sum_decided (number e) (number f)))
reckoning_decided (e ⊗ f) = or_else (reckoning_decided e) (or_else (reckoning_decided f) (product_decided (number e) (number f)))

-- TRIPLES
triple_decided : (A : Point) → Decided (IsTriplePast A)
triple_decided A =
    decided_by (λ p. (T.0, T.2, T.1, p)) back (or_else (past_decided T.0.x) (or_else (past_decided T.0.y) (past_decided (pos T.0.w))))
  where
    T : (T : Point) × SamePoint T A × IsLeast T
    T = least_exists A

    back : IsTriplePast A → IsPast T.0.x ⊎ (IsPast T.0.y ⊎ IsPast (pos T.0.w))
    back k =
        let s = least_once k.0 T.0 k.1 T.2 (point_trans k.0 A T.0 k.2 (flip_point _ _ T.1)) in
        subst (λ (n : ℕ). IsPast T.0.x ⊎ (IsPast T.0.y ⊎ IsPast (pos n))) s.w
        (subst (λ (z : ℤ). IsPast T.0.x ⊎ (IsPast z ⊎ IsPast (pos k.0.w))) s.y
        (subst (λ (z : ℤ). IsPast z ⊎ (IsPast k.0.y ⊎ IsPast (pos k.0.w))) s.x k.3))

-- TURNS
module _ (p : Source) (placed : Placement) where
  pub overflow_decided : (t : Turn) → Decided (TurnOverflows p placed t)
  overflow_decided (test c) = reckoning_decided (tested p placed c)
  overflow_decided (make n f) = or_else (reckoning_decided (step_spot placed n f).x) (reckoning_decided (step_spot placed n f).y)
  overflow_decided (write n) = triple_decided (placed.point n)
  overflow_decided (judge g) = reckoning_decided (judged p placed g)

  pub right_decided : (t : Turn) → Decided (IsRight p placed t)
  right_decided (test c) = nonzero_decided (number (tested p placed c))
  right_decided (make n f) = inl tt
  right_decided (write n) = inl tt
  right_decided (judge g) = null_decided (number (judged p placed g))
