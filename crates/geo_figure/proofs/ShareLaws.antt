-- Shares of coordinates: whether all coordinates are the same, and a share without its fractional part.
use Rattle.std.proofs.Common.{◌≡◌, ℕ, suc, ◌+◌, ◌*◌, ◌<◌, ◌≤◌, Bool, true, false, ℤ, pos, ◌*ℤ◌, unsigned_abs, ⊎_elim, List, [], ◌∷◌, refl, sym, ◌∙◌, ap, subst, arith}
use Rattle.std.specs.Prelude.{◌/◌, Ok, Err}
use Rattle.std.proofs.lemmas.Bool.{cases_lt}
use Rattle.std.proofs.lemmas.Int.{unsigned_abs-mul}
use Rattle.std.proofs.lemmas.List.Elements.{All-from_recursion, recursion_from_All}
use Rattle.std.proofs.lemmas.Nat.{div_below, le-div}
use Rattle.std.proofs.Math.Nat.{mul-le-mul_right, mul_assoc, mul_comm}
use Rattle.ring_laws.specs.Fraction.{Fraction, Same, minus, whole}
use Rattle.ring_laws.proofs.Fractions.{fractions}
use Rattle.ring_laws.proofs.Quotients.{same_of_zero, zero_of_same}
use Rattle.frac_laws.specs.declared.frac.Frac.{Frac}
use Rattle.frac_laws.specs.declared.frac.FracTooLarge.{FracTooLarge}
use Rattle.frac_laws.specs.Numbers.{IsNumber, IsSameNumber, fraction_of}
use Rattle.geo_points.specs.Points.{is_null}
use Rattle.geo_points.proofs.Ratios.{null-true}
use Rattle.geo_points.proofs.Zeros.{same_of_minus}
use Rattle.geo_place.specs.Reckonings.{Overflows, IsResult, Reckoning, number}
use Rattle.geo_place.proofs.ResultLaws.{same_of}
use Rattle.geo_figure.specs.declared.bounds.CoordinateBounds.{CoordinateBounds}
use Rattle.geo_figure.specs.Bounds.{greatest, least}
use Rattle.geo_figure.specs.Drawing.{are_level, share, shares}
use Rattle.geo_figure.specs.Inner.{AreBounds, AreKept}
use Rattle.geo_figure.specs.Inner.{IsStep}

-- WITHOUT THE FRACTIONAL PART
-- where p d is n q, p / q and n / d have the same whole part
same_floor : (p q n d : ℕ) → 0 < q → 0 < d → p * d ≡ n * q → p / q ≡ n / d
same_floor p q n d pq pd e =
    let u = p / q in
    let low : u * q ≤ p = ⊎_elim (λ (l : p < u * q). let h : p / q < u = div_below p q u pq l in absurd (omega arith)) (λ (l : u * q ≤ p). l) (cases_lt p (u * q)) in
    let high : p < suc u * q = ⊎_elim (λ (l : p < suc u * q). l) (λ (l : suc u * q ≤ p). let h : suc u ≤ p / q = le-div (suc u) p q pq l in absurd (omega arith)) (cases_lt p (suc u * q)) in
    let turn : (k : ℕ) → k * q * d ≡ k * d * q = λ k. mul_assoc k q d ∙ ap (λ (i : ℕ). k * i) (mul_comm q d) ∙ sym (mul_assoc k d q) in
    let below : u * d ≤ n =
    ⊎_elim
    (λ (l : n < u * d).
    let a : suc n * q ≤ u * d * q = mul-le-mul_right q l in
    let b : u * q * d ≤ p * d = mul-le-mul_right d low in
    let c = turn u in let f : suc n * q ≡ q + n * q = omega arith in absurd (omega (arith, a, b, c, e, f, pq)))
    (λ (l : u * d ≤ n). l) (cases_lt n (u * d)) in
    let above : n < suc u * d =
    ⊎_elim (λ (l : n < suc u * d). l)
    (λ (l : suc u * d ≤ n).
    let a : suc u * d * q ≤ n * q = mul-le-mul_right q l in
    let b : suc p * d ≤ suc u * q * d = mul-le-mul_right d high in
    let c = turn (suc u) in let f : suc p * d ≡ d + p * d = omega arith in absurd (omega (arith, a, b, c, e, f, pd))) (cases_lt n (suc u * d)) in
    let g : u ≤ n / d = le-div u n d pd below in
    let h : n / d < suc u = div_below n d (suc u) pd above in omega arith

pub floor_is : (r : Frac) (a : Fraction) → IsNumber r a → unsigned_abs r.num / unsigned_abs r.den ≡ unsigned_abs a.numerator / a.denominator
floor_is r a h =
    same_floor (unsigned_abs r.num) (unsigned_abs r.den) (unsigned_abs a.numerator) a.denominator r.nonzero a.positive
    (sym (unsigned_abs-mul r.num (pos a.denominator)) ∙ ap unsigned_abs h.crossed ∙ unsigned_abs-mul a.numerator r.den)

-- LEVEL COORDINATES
module _ (b : CoordinateBounds) (xs : List Fraction) (h : AreBounds b xs) where
  same_bounds : IsSameNumber b.least b.greatest → Same (greatest xs) (least xs)
  unfolding fraction_of
  same_bounds s =
      let e : Same (fraction_of b.greatest) (fraction_of b.least) = record {
        crossed = subst (λ z. b.greatest.num *ℤ z ≡ b.least.num *ℤ pos (unsigned_abs b.greatest.den)) b.least.positive
            (subst (λ z. b.greatest.num *ℤ b.least.den ≡ b.least.num *ℤ z) b.greatest.positive (sym s));
      } in
      fractions.same_trans _ _ _ (fractions.same_sym _ _ (same_of b.greatest (greatest xs) h.greatest)) (fractions.same_trans _ _ _ e (same_of b.least (least xs) h.least))

  bounds_same : Same (greatest xs) (least xs) → IsSameNumber b.least b.greatest
  unfolding fraction_of
  bounds_same s =
      let e = fractions.same_trans _ _ _ (same_of b.greatest (greatest xs) h.greatest) (fractions.same_trans _ _ _ s (fractions.same_sym _ _ (same_of b.least (least xs) h.least))) in
      sym (subst (λ z. b.greatest.num *ℤ z ≡ b.least.num *ℤ b.greatest.den) (sym b.least.positive)
      (subst (λ z. b.greatest.num *ℤ pos (unsigned_abs b.least.den) ≡ b.least.num *ℤ z) (sym b.greatest.positive) e.crossed))

  minus_null : Same (greatest xs) (least xs) → (minus (greatest xs) (least xs)).numerator ≡ pos 0
  unfolding minus
  minus_null s = zero_of_same (minus (greatest xs) (least xs)) (fractions.same_trans _ _ _ (fractions.add-same _ _ _ _ s (fractions.same_refl _)) (fractions.add-neg (least xs)))

  pub level : IsSameNumber b.least b.greatest → are_level xs ≡ true
  level s = subst (λ z. is_null z ≡ true) (sym (minus_null (same_bounds s))) refl

  pub tilted : (IsSameNumber b.least b.greatest → ⊥) → are_level xs ≡ false
  tilted n = go (are_level xs) refl
    where
      go : (z : Bool) → are_level xs ≡ z → z ≡ false
      go false e = refl
      go true e = absurd (n (bounds_same (same_of_minus (greatest xs) (least xs) (same_of_zero (minus (greatest xs) (least xs)) (null-true (minus (greatest xs) (least xs)).numerator e)))))

-- STEPS
abbrev Kept : Reckoning → Type 0
Kept e = Overflows e → ⊥

module _ (last : ℕ) (xs : List Fraction) (a : Fraction) where
  -- where all coordinates are the same
  pub level_step : are_level xs ≡ true → IsStep last xs a (Ok 0)
  level_step e = (
    sym (ap (λ (z : Bool). elim z [ true ↦ 0 | false ↦ unsigned_abs (number (share last xs a)).numerator / (number (share last xs a)).denominator ]) e),
    subst (λ (es : List Reckoning). AreKept es) (sym (ap (λ (z : Bool). elim z [ true ↦ [] | false ↦ share last xs a ∷ [] ]) e)) (All-from_recursion Kept [] tt),
  )

  -- and where they are not
  module _ (e : are_level xs ≡ false) where
    shares_are : shares last xs a ≡ share last xs a ∷ []
    shares_are = ap (λ (z : Bool). elim z [ true ↦ [] | false ↦ share last xs a ∷ [] ]) e

    pub share_step : (r : Frac) → IsResult r (share last xs a) → (k : ℕ) → k ≡ unsigned_abs (number (share last xs a)).numerator / (number (share last xs a)).denominator → IsStep last xs a (Ok k)
    share_step r h k q = (
      q ∙ sym (ap (λ (z : Bool). elim z [ true ↦ 0 | false ↦ unsigned_abs (number (share last xs a)).numerator / (number (share last xs a)).denominator ]) e),
      subst (λ (es : List Reckoning). AreKept es) (sym shares_are) (All-from_recursion Kept (share last xs a ∷ []) (h.kept, tt)),
    )

    pub share_refused : (refusal : FracTooLarge) → Overflows (share last xs a) → IsStep last xs a (Err refusal)
    share_refused refusal r = λ k. (recursion_from_All Kept (share last xs a ∷ []) (subst (λ (es : List Reckoning). AreKept es) shares_are k)).0 r

-- the number of steps as a fraction
pub last_number : (r : Frac) (last : ℤ) (n : ℕ) → r.num *ℤ pos 1 ≡ last *ℤ r.den → last ≡ pos n → IsNumber r (whole (pos n))
unfolding whole
last_number r last n e q = record { crossed = e ∙ ap (λ (z : ℤ). z *ℤ r.den) q }

pub differs : (b : Bool) → b ≡ true → b ≡ false → ⊥
differs b t f = let q : true ≡ false = sym t ∙ f in cc
