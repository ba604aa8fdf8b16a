-- Sums and products of fractions, and where they are refused.
use Rattle.std.proofs.Common.{◌≡◌, ℕ, zero, suc, ◌*◌, ◌<◌, ◌≤◌, ◌^◌, ℤ, pos, negsuc, ◌+ℤ◌, ◌*ℤ◌, Bool, true, false, refl, sym, subst, ap, ◌∙◌, unsigned_abs, ◌⊎◌, inl, inr, [], ◌∷◌, mul-pos, arith}
use Rattle.std.specs.Prelude.{◌/◌, ◌↔◌, IsErr, IfOk, Result, Ok, Err}
use Rattle.std.specs.Int.{◌∣◌, IsGcd}
use Rattle.std.proofs.lemmas.Int.{unsigned_abs-mul}
use Rattle.std.proofs.lemmas.Nat.Gcd.{same_from_IsGcd, IsGcd-swap}
use Rattle.std.proofs.Math.Nat.{div-mul_cancel}
use Rattle.ring_laws.specs.Fraction.{plus, times}
use Rattle.ring_laws.specs.Solver.{variable, ◌⊞◌, ◌⊠◌, opposite, entry_at, given}
use Rattle.ring_laws.proofs.Combination.{by_combination}
use Rattle.ring_laws.proofs.Integers.{integers}
use Rattle.ring_laws.proofs.Quotients.{cancel_factor}
use Rattle.frac_laws.specs.declared.frac.Frac.{Frac}
use Rattle.frac_laws.specs.Lowest.{IsLowest, IsPast, signed_by}
use Rattle.frac_laws.specs.Numbers.{AreSomePast, IsNumber, IsProductTooLarge, IsSameNumber, IsSumTooLarge, fraction_of}
use Rattle.frac_laws.proofs.Coprime.{coprime_product, divisors_coprime}
use Rattle.frac_laws.proofs.LowestTerms.{denominator_divides, numerator_divides, lowest_terms_are_unique}

-- a product of numbers that are not 0 is not 0
pub product_some : (a b : ℤ) → 1 ≤ unsigned_abs a → 1 ≤ unsigned_abs b → a *ℤ b ≡ pos 0 → ⊥
product_some a b s t h =
    let size : unsigned_abs a * unsigned_abs b ≡ 0 = sym (unsigned_abs-mul a b) ∙ ap unsigned_abs h in
    let some : 0 < unsigned_abs a * unsigned_abs b = mul-pos s t in
    omega (arith, size)

pub none_past : (x y z : ℤ) → unsigned_abs x < 2 ^ 127 → unsigned_abs y < 2 ^ 127 → unsigned_abs (x +ℤ y) < 2 ^ 127 → unsigned_abs z < 2 ^ 127 → AreSomePast x y z → ⊥
none_past x y z a b c d (inl p) = omega arith
none_past x y z a b c d (inr (inl p)) = omega arith
none_past x y z a b c d (inr (inr (inl p))) = omega arith
none_past x y z a b c d (inr (inr (inr p))) = omega arith

-- over the least common denominator
pub sum_is : (a b c d l r n e : ℤ) (g : ℤ) → b ≡ r *ℤ g → d ≡ l *ℤ g → n *ℤ (b *ℤ l) ≡ (a *ℤ l +ℤ c *ℤ r) *ℤ e → n *ℤ (b *ℤ d) ≡ (a *ℤ d +ℤ c *ℤ b) *ℤ e
sum_is a b c d l r n e g hb hd h =
    let a' = variable 0 in let b' = variable 1 in let c' = variable 2 in let d' = variable 3 in let l' = variable 4 in
    let r' = variable 5 in let n' = variable 6 in let e' = variable 7 in let g' = variable 8 in
    by_combination integers (entry_at integers (a ∷ b ∷ c ∷ d ∷ l ∷ r ∷ n ∷ e ∷ g ∷ []))
    (given g' (n' ⊠ (b' ⊠ l')) ((a' ⊠ l' ⊞ c' ⊠ r') ⊠ e')
    ∷ given (n' ⊠ b') d' (l' ⊠ g')
    ∷ given (a' ⊠ e') (l' ⊠ g') d'
    ∷ given (c' ⊠ e') (r' ⊠ g') b' ∷ [])
    (n' ⊠ (b' ⊠ d')) ((a' ⊠ d' ⊞ c' ⊠ b') ⊠ e') (h, (hd, (sym hd, (sym hb, tt)))) tt

-- the product of two fractions in lowest terms, each with the numerator of one and the denominator of the other factor
pub product_is : (a b c d n m e f k l : ℤ) → n *ℤ d ≡ a *ℤ e → m *ℤ b ≡ c *ℤ f → k *ℤ (e *ℤ f) ≡ n *ℤ m *ℤ l → (e ≡ pos 0 → ⊥) → (f ≡ pos 0 → ⊥)
    → k *ℤ (b *ℤ d) ≡ a *ℤ c *ℤ l
product_is a b c d n m e f k l hn hm h se sf =
    cancel_factor (k *ℤ (b *ℤ d)) (a *ℤ c *ℤ l) (e *ℤ f) (both se sf)
    (let a' = variable 0 in let b' = variable 1 in let c' = variable 2 in let d' = variable 3 in let n' = variable 4 in
    let m' = variable 5 in let e' = variable 6 in let f' = variable 7 in let k' = variable 8 in let l' = variable 9 in
    by_combination integers (entry_at integers (a ∷ b ∷ c ∷ d ∷ n ∷ m ∷ e ∷ f ∷ k ∷ l ∷ []))
    (given (b' ⊠ d') (k' ⊠ (e' ⊠ f')) (n' ⊠ m' ⊠ l')
    ∷ given (m' ⊠ b' ⊠ l') (n' ⊠ d') (a' ⊠ e')
    ∷ given (a' ⊠ e' ⊠ l') (m' ⊠ b') (c' ⊠ f') ∷ [])
    (k' ⊠ (b' ⊠ d') ⊠ (e' ⊠ f')) (a' ⊠ c' ⊠ l' ⊠ (e' ⊠ f')) (h, (hn, (hm, tt))) tt)
  where
    some : (x : ℤ) → (x ≡ pos 0 → ⊥) → 1 ≤ unsigned_abs x
    some (pos zero) n = absurd (n refl)
    some (pos (suc k)) n = omega arith
    some (negsuc k) n = omega arith

    both : (e ≡ pos 0 → ⊥) → (f ≡ pos 0 → ⊥) → e *ℤ f ≡ pos 0 → ⊥
    both se sf h = product_some e f (some e se) (some f sf) h

-- ONE ANSWER OR THE OTHER
pub exactly : {A E P : Type 0} (r : Result A E) → (IsErr r → P) → IfOk r (λ (x : A). P → ⊥) → IsErr r ↔ P
exactly (Ok x) h g = (h, λ p. absurd (g p))
exactly (Err e) h g = (h, λ p. refl)

-- lowest terms are the only ones
pub same_number : (f h : Frac) → IsSameNumber f h → (f.num ≡ h.num) × (f.den ≡ h.den)
same_number f h e =
    let d : pos (unsigned_abs f.den) ≡ f.den = sym f.positive in
    let d' : pos (unsigned_abs h.den) ≡ h.den = sym h.positive in
    let crossed : f.num *ℤ pos (unsigned_abs h.den) ≡ h.num *ℤ pos (unsigned_abs f.den) =
    ap (λ (z : ℤ). f.num *ℤ z) d' ∙ e ∙ ap (λ (z : ℤ). h.num *ℤ z) f.positive in
    let one = lowest_terms_are_unique.unique f.num h.num (unsigned_abs f.den) (unsigned_abs h.den) f.nonzero h.nonzero f.lowest h.lowest crossed in
    (one.0, f.positive ∙ ap pos one.1 ∙ d')

-- the sum over the least common denominator is the sum
pub sum_number : (f h r : Frac) (g : ℕ) → g ∣ unsigned_abs f.den → g ∣ unsigned_abs h.den
    → r.num *ℤ (f.den *ℤ pos (unsigned_abs h.den / g)) ≡ (f.num *ℤ pos (unsigned_abs h.den / g) +ℤ h.num *ℤ pos (unsigned_abs f.den / g)) *ℤ r.den
    → IsNumber r (plus (fraction_of f) (fraction_of h))
unfolding plus fraction_of
sum_number f h r g first second e =
    let b : pos (unsigned_abs f.den) ≡ pos (unsigned_abs f.den / g) *ℤ pos g = ap pos (sym (div-mul_cancel g first)) in
    let d : pos (unsigned_abs h.den) ≡ pos (unsigned_abs h.den / g) *ℤ pos g = ap pos (sym (div-mul_cancel g second)) in
    record {
      crossed = sum_is f.num (pos (unsigned_abs f.den)) h.num (pos (unsigned_abs h.den)) (pos (unsigned_abs h.den / g)) (pos (unsigned_abs f.den / g)) r.num r.den (pos g) b d
          (ap (λ (z : ℤ). r.num *ℤ (z *ℤ pos (unsigned_abs h.den / g))) (sym f.positive) ∙ e);
    }

abbrev Past : Frac → Frac → ℕ → Type 0
Past f h g = AreSomePast (f.num *ℤ pos (unsigned_abs h.den / g)) (h.num *ℤ pos (unsigned_abs f.den / g)) (f.den *ℤ pos (unsigned_abs h.den / g))

-- where the sum is refused
pub sum_too_large : (f h : Frac) (g : ℕ) {E : Type 0} (r : Result Frac E) → IsGcd (unsigned_abs f.den) (unsigned_abs h.den) g
    → (IsErr r → AreSomePast (f.num *ℤ pos (unsigned_abs h.den / g)) (h.num *ℤ pos (unsigned_abs f.den / g)) (f.den *ℤ pos (unsigned_abs h.den / g)))
    → IfOk r (λ (x : Frac). AreSomePast (f.num *ℤ pos (unsigned_abs h.den / g)) (h.num *ℤ pos (unsigned_abs f.den / g)) (f.den *ℤ pos (unsigned_abs h.den / g)) → ⊥)
    → IsErr r ↔ IsSumTooLarge f h
sum_too_large f h g (Ok x) greatest past none = (λ e. absurd (not_err e), λ s. absurd (none (subst (Past f h) (same_from_IsGcd (unsigned_abs f.den) (unsigned_abs h.den) s.0 g s.1 greatest) s.2)))
  where
    not_err : false ≡ true → ⊥
    not_err e = cc
sum_too_large f h g (Err e) greatest past none = (λ i. (g, greatest, past i), λ s. refl)

pub each_ok : {A E : Type 0} {P Q : A → Type 0} (r : Result A E) → IfOk r P → ((x : A) → P x → Q x) → IfOk r Q
each_ok (Ok x) h f = f x h
each_ok (Err e) h f = h

-- a number over its denominator, both divided by a common divisor, is the same
pub reduced_is : (negative : Bool) (n d g : ℕ) → g ∣ n → g ∣ d → signed_by negative (n / g) *ℤ pos d ≡ signed_by negative n *ℤ pos (d / g)
reduced_is true n d g first second =
    let x = pos (n / g) in
    let y = pos (d / g) in
    let hn : pos n ≡ x *ℤ pos g = ap pos (sym (div-mul_cancel g first)) in
    let hd : pos d ≡ y *ℤ pos g = ap pos (sym (div-mul_cancel g second)) in
    let x' = variable 0 in let y' = variable 1 in let g' = variable 2 in let n' = variable 3 in let d' = variable 4 in
    by_combination integers (entry_at integers (x ∷ y ∷ pos g ∷ pos n ∷ pos d ∷ []))
    (given (opposite x') d' (y' ⊠ g') ∷ given y' n' (x' ⊠ g') ∷ [])
    (opposite x' ⊠ d') (opposite n' ⊠ y') (hd, (hn, tt)) tt
reduced_is false n d g first second =
    let x = pos (n / g) in
    let y = pos (d / g) in
    let hn : pos n ≡ x *ℤ pos g = ap pos (sym (div-mul_cancel g first)) in
    let hd : pos d ≡ y *ℤ pos g = ap pos (sym (div-mul_cancel g second)) in
    let x' = variable 0 in let y' = variable 1 in let g' = variable 2 in let n' = variable 3 in let d' = variable 4 in
    by_combination integers (entry_at integers (x ∷ y ∷ pos g ∷ pos n ∷ pos d ∷ []))
    (given x' d' (y' ⊠ g') ∷ given y' (x' ⊠ g') n' ∷ [])
    (x' ⊠ d') (n' ⊠ y') (hd, (sym hn, tt)) tt

-- PRODUCTS
-- the cross-wise reduced product is in lowest terms
pub crossed_lowest : (f h first second : Frac) → first.num *ℤ h.den ≡ f.num *ℤ first.den → second.num *ℤ f.den ≡ h.num *ℤ second.den
    → IsLowest (first.num *ℤ second.num) (unsigned_abs (first.den *ℤ second.den))
crossed_lowest f h first second a b =
    let n = unsigned_abs first.num in let m = unsigned_abs second.num in let e = unsigned_abs first.den in let k = unsigned_abs second.den in
    let a' : first.num *ℤ pos (unsigned_abs h.den) ≡ f.num *ℤ pos e = ap (λ (z : ℤ). first.num *ℤ z) (sym h.positive) ∙ a ∙ ap (λ (z : ℤ). f.num *ℤ z) first.positive in
    let b' : second.num *ℤ pos (unsigned_abs f.den) ≡ h.num *ℤ pos k = ap (λ (z : ℤ). second.num *ℤ z) (sym f.positive) ∙ b ∙ ap (λ (z : ℤ). h.num *ℤ z) second.positive in
    let nf : n ∣ unsigned_abs f.num = numerator_divides first.num f.num e (unsigned_abs h.den) first.lowest a' in
    let eh : e ∣ unsigned_abs h.den = denominator_divides first.num f.num e (unsigned_abs h.den) first.lowest a' in
    let mh : m ∣ unsigned_abs h.num = numerator_divides second.num h.num k (unsigned_abs f.den) second.lowest b' in
    let kf : k ∣ unsigned_abs f.den = denominator_divides second.num h.num k (unsigned_abs f.den) second.lowest b' in
    let nk : IsGcd n k 1 = divisors_coprime n k (unsigned_abs f.num) (unsigned_abs f.den) nf kf f.lowest in
    let me : IsGcd m e 1 = divisors_coprime m e (unsigned_abs h.num) (unsigned_abs h.den) mh eh h.lowest in
    let left : IsGcd (n * m) e 1 = coprime_product n m e first.lowest me in
    let right : IsGcd (n * m) k 1 = coprime_product n m k nk second.lowest in
    let whole : IsGcd (e * k) (n * m) 1 = coprime_product e k (n * m) (IsGcd-swap (n * m) e 1 left) (IsGcd-swap (n * m) k 1 right) in
    rw (unsigned_abs-mul first.num second.num, unsigned_abs-mul first.den second.den) (IsGcd-swap (e * k) (n * m) 1 whole)

nonzero_of : (f : Frac) → f.den ≡ pos 0 → ⊥
nonzero_of f z = let size : unsigned_abs f.den ≡ 0 = ap unsigned_abs z in let some : 1 ≤ unsigned_abs f.den = f.nonzero in omega arith

pub product_number : (f h first second r : Frac) → first.num *ℤ h.den ≡ f.num *ℤ first.den → second.num *ℤ f.den ≡ h.num *ℤ second.den
    → r.num *ℤ (first.den *ℤ second.den) ≡ first.num *ℤ second.num *ℤ r.den → IsNumber r (times (fraction_of f) (fraction_of h))
unfolding times fraction_of
product_number f h first second r a b e = record {
  crossed = product_is f.num (pos (unsigned_abs f.den)) h.num (pos (unsigned_abs h.den)) first.num second.num first.den second.den r.num r.den
      (ap (λ (z : ℤ). first.num *ℤ z) (sym h.positive) ∙ a) (ap (λ (z : ℤ). second.num *ℤ z) (sym f.positive) ∙ b) e (nonzero_of first) (nonzero_of second);
}

pub product_too_large : (f h first second : Frac) {E : Type 0} (r : Result Frac E) → first.num *ℤ h.den ≡ f.num *ℤ first.den → second.num *ℤ f.den ≡ h.num *ℤ second.den
    → (IsErr r → IsPast (first.num *ℤ second.num) ⊎ IsPast (first.den *ℤ second.den))
    → IfOk r (λ (x : Frac). IsPast (first.num *ℤ second.num) ⊎ IsPast (first.den *ℤ second.den) → ⊥)
    → IsErr r ↔ IsProductTooLarge f h
product_too_large f h first second r a b past none = exactly r up (each_ok r none down)
  where
    n : ℤ
    n = first.num *ℤ second.num

    d : ℤ
    d = first.den *ℤ second.den

    same : n *ℤ (f.den *ℤ h.den) ≡ f.num *ℤ h.num *ℤ d
    same = product_is f.num f.den h.num h.den first.num second.num first.den second.den n d a b refl (nonzero_of first) (nonzero_of second)

    size : d ≡ pos (unsigned_abs d)
    size = (λ i. first.positive i *ℤ second.positive i) ∙ ap pos (sym (unsigned_abs-mul first.den second.den))

    some : 1 ≤ unsigned_abs d
    some = let p : 0 < unsigned_abs first.den * unsigned_abs second.den = mul-pos first.nonzero second.nonzero in omega (arith, unsigned_abs-mul first.den second.den)

    lowest : IsLowest n (unsigned_abs d)
    lowest = crossed_lowest f h first second a b

    up : IsErr r → IsProductTooLarge f h
    up e = (n, unsigned_abs d, lowest, some, same ∙ ap (λ (z : ℤ). f.num *ℤ h.num *ℤ z) size, split (past e))
      where
        split : IsPast n ⊎ IsPast d → IsPast n ⊎ IsPast (pos (unsigned_abs d))
        split (inl p) = inl p
        split (inr p) = inr p

    compared : (k : ℤ) (l : ℕ) → k *ℤ (f.den *ℤ h.den) ≡ f.num *ℤ h.num *ℤ pos l → k *ℤ pos (unsigned_abs d) ≡ n *ℤ pos l
    compared k l e =
        let D = pos (unsigned_abs d) in
        let k' = variable 0 in let D' = variable 1 in let n' = variable 2 in let l' = variable 3 in let B = variable 4 in let A = variable 5 in
        let whole : n *ℤ (f.den *ℤ h.den) ≡ f.num *ℤ h.num *ℤ D = same ∙ ap (λ (z : ℤ). f.num *ℤ h.num *ℤ z) size in
        cancel_factor (k *ℤ D) (n *ℤ pos l) (f.den *ℤ h.den) (product_some f.den h.den f.nonzero h.nonzero)
        (by_combination integers (entry_at integers (k ∷ D ∷ n ∷ pos l ∷ (f.den *ℤ h.den) ∷ (f.num *ℤ h.num) ∷ []))
        (given D' (k' ⊠ B) (A ⊠ l') ∷ given l' (A ⊠ D') (n' ⊠ B) ∷ [])
        (k' ⊠ D' ⊠ B) (n' ⊠ l' ⊠ B) (e, (sym whole, tt)) tt)

    down : (x : Frac) → (IsPast n ⊎ IsPast d → ⊥) → IsProductTooLarge f h → ⊥
    down x no_past (k, l, low, s, value, large) =
        let least = lowest_terms_are_unique.least k n l (unsigned_abs d) s some low (compared k l value) in
        no_past (larger k l least.0 least.1 large)
      where
        larger : (k : ℤ) (l : ℕ) → l ≤ unsigned_abs d → unsigned_abs k ≤ unsigned_abs n → IsPast k ⊎ IsPast (pos l) → IsPast n ⊎ IsPast d
        larger k l a b (inl p) = inl (omega (arith, b, p))
        larger k l a b (inr p) = inr (omega (arith, a, p))
