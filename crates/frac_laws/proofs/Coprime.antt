-- Numbers without a common divisor.
use Rattle.std.proofs.Common.{◌≡◌, ℕ, zero, suc, ◌+◌, ◌-◌, ◌*◌, ◌<◌, ◌≤◌, refl, subst, ap, ◌∙◌, ◌⊎◌, inl, inr, arith}
use Rattle.std.specs.Prelude.{◌/◌}
use Rattle.std.specs.Int.{◌∣◌, IsGcd}
use Rattle.std.proofs.lemmas.Bool.{cases_lt}
use Rattle.std.proofs.lemmas.Nat.Gcd.{IsGcd-from_zero, IsGcd-from_sub, IsGcd-swap, same_from_IsGcd, dvd_trans}
use Rattle.std.proofs.Math.Nat.{div-mul_cancel, dvd-mul_right, eq_of_mul-eq-mul_right, mul_comm, mul-le-mul_right, mul-sub, one-dvd}

-- some g is the greatest common divisor of a and b, and g c that of a c and b c
pub record Scaled (a b c : ℕ) : Type 0 where
  pub divisor : ℕ
  pub greatest : IsGcd a b divisor
  pub scaled : IsGcd (a * c) (b * c) (divisor * c)

turned : (a b c : ℕ) → Scaled a b c → Scaled b a c
turned a b c s = record {
  divisor = s.divisor;
  greatest = IsGcd-swap a b s.divisor s.greatest;
  scaled = IsGcd-swap (a * c) (b * c) (s.divisor * c) s.scaled;
}

difference_times : (a b c : ℕ) → (a - b) * c ≡ a * c - b * c
difference_times a b c = mul_comm (a - b) c ∙ mul-sub c a b ∙ (λ i. mul_comm c a i - mul_comm c b i)

further : (a b c : ℕ) → b ≤ a → Scaled (a - b) b c → Scaled a b c
further a b c le s = record {
  divisor = s.divisor;
  greatest = IsGcd-from_sub a b s.divisor le s.greatest;
  scaled = IsGcd-from_sub (a * c) (b * c) (s.divisor * c) (mul-le-mul_right c le)
      (subst (λ (n : ℕ). IsGcd n (b * c) (s.divisor * c)) (difference_times a b c) s.scaled);
}

pub scaled : (n a b c : ℕ) → a + b ≤ n → Scaled a b c
scaled n a zero c h = record { divisor = a; greatest = IsGcd-from_zero a zero refl; scaled = IsGcd-from_zero (a * c) (zero * c) (omega arith) }
scaled n zero (suc b) c h = turned (suc b) zero c (record { divisor = suc b; greatest = IsGcd-from_zero (suc b) zero refl; scaled = IsGcd-from_zero (suc b * c) (zero * c) (omega arith) })
scaled zero (suc a) (suc b) c h = absurd (omega arith)
scaled (suc n) (suc a) (suc b) c h = go (cases_lt (suc a) (suc b)) (λ x y le. scaled n x y c le)
  where
    go : (suc a < suc b) ⊎ (suc b ≤ suc a) → ((x y : ℕ) → x + y ≤ n → Scaled x y c) → Scaled (suc a) (suc b) c
    go (inl lt) more = turned (suc b) (suc a) c (further (suc b) (suc a) c (omega arith) (more (suc b - suc a) (suc a) (omega arith)))
    go (inr le) more = further (suc a) (suc b) c le (more (suc a - suc b) (suc b) (omega arith))

-- what divides a product and shares no divisor with one factor divides the other
pub euclid : (a b c : ℕ) → IsGcd a b 1 → a ∣ b * c → a ∣ c
euclid a b c coprime h =
    let s : Scaled a b c = scaled (a + b) a b c (omega arith) in
    let one : s.divisor ≡ 1 = same_from_IsGcd a b s.divisor 1 s.greatest coprime in
    let whole : s.divisor * c ≡ c = ap (λ (n : ℕ). n * c) one ∙ omega arith in
    (subst (λ (n : ℕ). IsGcd (a * c) (b * c) n) whole s.scaled).2 a (dvd-mul_right a c) h

-- divided by their greatest common divisor, two numbers share no divisor
pub divided : (a b g : ℕ) → 0 < g → IsGcd a b g → IsGcd (a / g) (b / g) 1
divided a b g some h =
    let s : Scaled (a / g) (b / g) g = scaled (a / g + b / g) (a / g) (b / g) g (omega arith) in
    let first : a / g * g ≡ a = div-mul_cancel g h.0 in
    let second : b / g * g ≡ b = div-mul_cancel g h.1 in
    let whole : IsGcd a b (s.divisor * g) = subst (λ (n : ℕ). IsGcd n b (s.divisor * g)) first (subst (λ (n : ℕ). IsGcd (a / g * g) n (s.divisor * g)) second s.scaled) in
    let same : s.divisor * g ≡ 1 * g = same_from_IsGcd a b (s.divisor * g) g whole h ∙ omega arith in
    subst (λ (n : ℕ). IsGcd (a / g) (b / g) n) (eq_of_mul-eq-mul_right g some s.divisor 1 same) s.greatest

-- a product shares no divisor with what neither factor shares one with
pub coprime_product : (x y z : ℕ) → IsGcd x z 1 → IsGcd y z 1 → IsGcd (x * y) z 1
coprime_product x y z h k = (
  one-dvd (x * y),
  one-dvd z,
  λ d p q.
      k.2 d (euclid d x y (one-dvd d, one-dvd x, λ e r s. h.2 e s (dvd_trans e r q)) p) q,
)

-- what divides a number that is not 0 is not 0, and goes into it at least once
pub divisor_some : (g e : ℕ) → 1 ≤ e → g ∣ e → 0 < g
divisor_some g e s h = go g (div-mul_cancel g h)
  where
    go : (k : ℕ) → e / g * k ≡ e → 0 < k
    go zero same = absurd (omega (arith, same))
    go (suc k) same = omega arith

pub quotient_some : (g e : ℕ) → 1 ≤ e → g ∣ e → 1 ≤ e / g
quotient_some g e s h = go (e / g) (div-mul_cancel g h)
  where
    go : (k : ℕ) → k * g ≡ e → 1 ≤ k
    go zero same = absurd (omega (arith, same))
    go (suc k) same = omega arith

-- divisors of numbers without a common divisor have none
pub divisors_coprime : (x y a b : ℕ) → x ∣ a → y ∣ b → IsGcd a b 1 → IsGcd x y 1
divisors_coprime x y a b p q h = (one-dvd x, one-dvd y, λ d r s. h.2 d (dvd_trans d r p) (dvd_trans d s q))
