-- Signs of numbers in lowest terms, and how bounds grow.
use Rattle.std.proofs.Common.{◌≡◌, ℕ, zero, suc, ◌+◌, ◌*◌, ◌<◌, Bool, true, false, ℤ, pos, negsuc, ◌*ℤ◌, ◌+ℤ◌, unsigned_abs, List, [], ◌∷◌}
use Rattle.std.proofs.Common.{◌++◌, fold, neg_ℤ, refl, sym, ◌∙◌, ap, subst, mul-pos, arith}
use Rattle.std.specs.Prelude.{◌≤ℤ◌, ◌<ℤ◌, Ok}
use Rattle.std.proofs.lemmas.Int.{ints}
use Rattle.ring_laws.specs.Solver.{variable, numeral, ◌⊠◌, ◌⊞◌, opposite, entry_at, given}
use Rattle.ring_laws.specs.Fraction.{Fraction, minus, negated, plus, quotient, quotient_at, whole}
use Rattle.ring_laws.proofs.Combination.{by_combination}
use Rattle.ring_laws.proofs.Integers.{integers}
use Rattle.ring_laws.proofs.Sound.{agree}
use Rattle.frac_laws.specs.declared.frac.Frac.{Frac}
use Rattle.frac_laws.specs.Numbers.{IsNumber}
use Rattle.geo_place.specs.Reckonings.{IsResult, known, ◌⊖◌}
use Rattle.geo_figure.specs.Bounds.{greater, greatest, is_negative, least, lesser}
use Rattle.geo_figure.specs.Inner.{IsGreater, IsLesser}

-- SIGNS
-- n a and -m d are not the same, where m and d are not 0
apart : (n a m d : ℕ) → 0 < d → pos n *ℤ pos a ≡ negsuc m *ℤ pos d → ⊥
apart n a m d some e =
    let v = variable in
    let q : pos n *ℤ pos a +ℤ pos (suc m) *ℤ pos d ≡ pos 0 =
    by_combination integers (entry_at integers (pos n ∷ pos a ∷ pos (suc m) ∷ pos d ∷ [])) (given (numeral 1) (v 0 ⊠ v 1) (opposite (v 2) ⊠ v 3) ∷ [])
    (v 0 ⊠ v 1 ⊞ v 2 ⊠ v 3) (numeral 0) (e, tt) tt in
    let k : n * a + suc m * d ≡ 0 = ap unsigned_abs q in
    let p : 0 < suc m * d = mul-pos (omega arith) some in
    omega arith

-- the numerators of one number have one sign
pub sign_same : (r : Frac) (a : Fraction) → IsNumber r a → is_negative r.num ≡ is_negative a.numerator
sign_same r a h = go r.num a.numerator (subst (λ z. r.num *ℤ pos a.denominator ≡ a.numerator *ℤ z) r.positive h.crossed)
  where
    go : (x z : ℤ) → x *ℤ pos a.denominator ≡ z *ℤ pos (unsigned_abs r.den) → is_negative x ≡ is_negative z
    go (pos n) (pos m) e = refl
    go (negsuc n) (negsuc m) e = refl
    go (pos n) (negsuc m) e = absurd (apart n a.denominator m (unsigned_abs r.den) r.nonzero e)
    go (negsuc n) (pos m) e = absurd (apart m (unsigned_abs r.den) n a.denominator a.positive (sym e))

-- a number of 128 bits over one that is at least 1
pub quotient_number : (r : Frac) (x w : ℤ) → pos 1 ≤ℤ w → r.num *ℤ w ≡ x *ℤ r.den → IsNumber r (quotient (whole x) (whole w))
unfolding quotient quotient_at whole
quotient_number r x (pos zero) l e = absurd (omega arith)
quotient_number r x (pos (suc k)) l e =
    let v = variable in record {
      crossed = by_combination integers (entry_at integers (r.num ∷ pos (suc k) ∷ x ∷ r.den ∷ [])) (given (numeral 1) (v 0 ⊠ v 1) (v 2 ⊠ v 3) ∷ [])
          (v 0 ⊠ (numeral 1 ⊠ v 1)) (v 2 ⊠ numeral 1 ⊠ v 3) (e, tt) tt;
    }
quotient_number r x (negsuc k) l e = absurd (omega arith)

-- BOUNDS
fold_last : {A B : Type 0} (f : A → B → A) (z : A) (xs : List B) (x : B) → fold f z (xs ++ x ∷ []) ≡ f (fold f z xs) x
fold_last f z [] x = refl
fold_last f z (y ∷ ys) x = fold_last f (f z y) ys x

pub least_next : (xs : List Fraction) (a : Fraction) → (xs ≡ [] → ⊥) → least (xs ++ a ∷ []) ≡ lesser (least xs) a
least_next [] a n = absurd (n refl)
least_next (y ∷ ys) a n = fold_last lesser y ys a

pub greatest_next : (xs : List Fraction) (a : Fraction) → (xs ≡ [] → ⊥) → greatest (xs ++ a ∷ []) ≡ greater (greatest xs) a
greatest_next [] a n = absurd (n refl)
greatest_next (y ∷ ys) a n = fold_last greater y ys a

-- the number that is lesser, by the sign of the difference
module _ (least x below : Frac) (a b : Fraction) (ha : IsNumber least a) (hb : IsNumber x b) (d : IsResult below (known b ⊖ known a)) where
  minus_is : IsNumber below (minus b a)
  unfolding minus
  minus_is = d.is

  pub lesser_first : below.num <ℤ pos 0 → IsLesser a b (Ok x)
  lesser_first l =
      let e : is_negative (minus b a).numerator ≡ true = sym (sign_same below (minus b a) minus_is) ∙ negative below.num l in
      (subst (λ (z : Bool). IsNumber x (elim z [ true ↦ b | false ↦ a ])) (sym e) hb, d.kept)
    where
      negative : (z : ℤ) → z <ℤ pos 0 → is_negative z ≡ true
      negative (pos n) l = absurd (omega (arith, ints, l))
      negative (negsuc n) l = refl

  pub lesser_second : pos 0 ≤ℤ below.num → IsLesser a b (Ok least)
  lesser_second l =
      let e : is_negative (minus b a).numerator ≡ false = sym (sign_same below (minus b a) minus_is) ∙ not_negative below.num l in
      (subst (λ (z : Bool). IsNumber least (elim z [ true ↦ b | false ↦ a ])) (sym e) ha, d.kept)
    where
      not_negative : (z : ℤ) → pos 0 ≤ℤ z → is_negative z ≡ false
      not_negative (pos n) l = refl
      not_negative (negsuc n) l = absurd (omega (arith, ints, l))

-- the greatest less a number is negative exactly where the number less the greatest is above 0
turned : (a b : Fraction) → is_negative (minus a b).numerator ≡ is_negative (negated (minus b a)).numerator
unfolding minus plus negated
turned a b =
    let v = variable in
    ap is_negative
    (agree integers (entry_at integers (a.numerator ∷ pos a.denominator ∷ b.numerator ∷ pos b.denominator ∷ []))
    (v 0 ⊠ v 3 ⊞ opposite (v 2) ⊠ v 1) (opposite (v 2 ⊠ v 1 ⊞ opposite (v 0) ⊠ v 3)) tt)

-- a number is above 0
abbrev pub is_above : ℤ → Bool
is_above (pos zero) = false
is_above (pos (suc n)) = true
is_above (negsuc n) = false

above_negated : (z : ℤ) → is_negative (neg_ℤ z) ≡ is_above z
above_negated (pos zero) = refl
above_negated (pos (suc n)) = refl
above_negated (negsuc n) = refl

above_same : (r : Frac) (a : Fraction) → IsNumber r a → is_above r.num ≡ is_above a.numerator
above_same r a h = go r.num a.numerator (subst (λ z. r.num *ℤ pos a.denominator ≡ a.numerator *ℤ z) r.positive h.crossed)
  where
    zero_left : (d m w : ℕ) → 0 < w → pos 0 *ℤ pos d ≡ pos (suc m) *ℤ pos w → ⊥
    zero_left d m w some e =
        let k : 0 * d ≡ suc m * w = ap unsigned_abs e in
        let p : 0 < suc m * w = mul-pos (omega arith) some in omega arith

    go : (x z : ℤ) → x *ℤ pos a.denominator ≡ z *ℤ pos (unsigned_abs r.den) → is_above x ≡ is_above z
    go (pos zero) (pos zero) e = refl
    go (pos (suc n)) (pos (suc m)) e = refl
    go (negsuc n) (negsuc m) e = refl
    go (pos zero) (negsuc m) e = refl
    go (negsuc m) (pos zero) e = refl
    go (pos zero) (pos (suc m)) e = absurd (zero_left a.denominator m (unsigned_abs r.den) r.nonzero e)
    go (pos (suc n)) (pos zero) e = absurd (zero_left (unsigned_abs r.den) n a.denominator a.positive (sym e))
    go (pos (suc n)) (negsuc m) e = absurd (apart (suc n) a.denominator m (unsigned_abs r.den) r.nonzero e)
    go (negsuc n) (pos (suc m)) e = absurd (apart (suc m) (unsigned_abs r.den) n a.denominator a.positive (sym e))

-- the number that is greater, by the sign of the difference
module _ (greatest x above : Frac) (a b : Fraction) (ha : IsNumber greatest a) (hb : IsNumber x b) (d : IsResult above (known b ⊖ known a)) where
  above_is : is_negative (minus a b).numerator ≡ is_above above.num
  unfolding minus negated
  above_is = turned a b ∙ above_negated (minus b a).numerator ∙ sym (above_same above (minus b a) d.is)

  pub greater_first : pos 0 <ℤ above.num → IsGreater a b (Ok x)
  greater_first l = (subst (λ (z : Bool). IsNumber x (elim z [ true ↦ b | false ↦ a ])) (sym (above_is ∙ positive above.num l)) hb, d.kept)
    where
      positive : (z : ℤ) → pos 0 <ℤ z → is_above z ≡ true
      positive (pos zero) l = absurd (omega (arith, ints, l))
      positive (pos (suc n)) l = refl
      positive (negsuc n) l = absurd (omega (arith, ints, l))

  pub greater_second : above.num ≤ℤ pos 0 → IsGreater a b (Ok greatest)
  greater_second l = (subst (λ (z : Bool). IsNumber greatest (elim z [ true ↦ b | false ↦ a ])) (sym (above_is ∙ not_positive above.num l)) ha, d.kept)
    where
      not_positive : (z : ℤ) → z ≤ℤ pos 0 → is_above z ≡ false
      not_positive (pos zero) l = refl
      not_positive (pos (suc n)) l = absurd (omega (arith, ints, l))
      not_positive (negsuc n) l = refl
