-- Sums over the numbers below a bound.
use Rattle.std.proofs.Common.{◌≡◌, ℕ, zero, suc, ◌+◌, ◌<◌, ◌≤◌, inl, inr, Bool, true, false, cond, eqb, refl, sym, ap, subst, arith}
use Rattle.std.proofs.lemmas.Bool.Decides.{nat_tests}
use Rattle.fraction_poly.specs.Inner.Charges.{range_sum}
use Rattle.fraction_poly.proofs.Places.{place_cases}

pub range_sum-le : (f g : ℕ → ℕ) (n : ℕ) → ((q : ℕ) → q < n → f q ≤ g q) → range_sum f n ≤ range_sum g n
range_sum-le f g zero h = omega arith
range_sum-le f g (suc n) h = omega (arith, range_sum-le f g n (λ q lt. h q (omega (arith, lt))), h n (omega arith))

pub range_sum-both : (f g : ℕ → ℕ) (n : ℕ) → range_sum (λ q. f q + g q) n ≡ range_sum f n + range_sum g n
range_sum-both f g zero = refl
range_sum-both f g (suc n) = omega (arith, range_sum-both f g n)

pub range_sum-none : (f : ℕ → ℕ) → ((q : ℕ) → f q ≡ 0) → (n : ℕ) → range_sum f n ≡ 0
range_sum-none f none zero = refl
range_sum-none f none (suc n) = omega (arith, range_sum-none f none n, none n)

pub range_sum-upto : (f : ℕ → ℕ) (m n : ℕ) → m ≤ n → range_sum f m ≤ range_sum f n
range_sum-upto f m zero h = let none : m ≡ 0 = omega (arith, h) in subst (λ (k : ℕ). range_sum f k ≤ 0) (sym none) (omega arith)
range_sum-upto f m (suc n) h = elim (place_cases m (suc n) (omega (arith, h))) [
  | inl less ↦ omega (arith, range_sum-upto f m n (omega (arith, less)))
  | inr same ↦ subst (λ (k : ℕ). range_sum f k ≤ range_sum f (suc n)) (sym same) (omega arith)
]

-- x at k, and 0 elsewhere
abbrev pub only_at : ℕ → ℕ → ℕ → ℕ
only_at k x q = cond (eqb q k) x 0

-- what a test leaves
pub at_most : (b : Bool) (x : ℕ) → cond b x 0 ≤ x
at_most true x = omega arith
at_most false x = omega arith

pub only_at-here : (k x : ℕ) → only_at k x k ≡ x
only_at-here k x = let same : eqb k k ≡ true = grind (arith, nat_tests) in ap (λ b. cond b x 0) same

-- before k it is 0
none_before : (k x n : ℕ) → n ≤ k → range_sum (only_at k x) n ≡ 0
none_before k x zero h = refl
none_before k x (suc n) h =
    let other : eqb n k ≡ false = grind (arith, nat_tests, h) in
    omega (arith, none_before k x n (omega (arith, h)), ap (λ b. cond b x 0) other)

pub range_sum-only : (k x n : ℕ) → range_sum (only_at k x) n ≤ x
range_sum-only k x zero = omega arith
range_sum-only k x (suc n) = go (eqb n k) refl (range_sum-only k x n)
  where
    go : (b : Bool) → eqb n k ≡ b → range_sum (only_at k x) n ≤ x → range_sum (only_at k x) (suc n) ≤ x
    go true e before = let same : n ≤ k = grind (arith, nat_tests, e) in omega (arith, none_before k x n same, at_most (eqb n k) x)
    go false e before = omega (arith, before, ap (λ b. cond b x 0) e)

pub range_sum-at : (k x n : ℕ) → k < n → x ≤ range_sum (only_at k x) n
range_sum-at k x zero h = absurd (omega (arith, h))
range_sum-at k x (suc n) h = elim (place_cases k n h) [
  | inl less ↦ omega (arith, range_sum-at k x n less)
  | inr same ↦ subst (λ (m : ℕ). x ≤ range_sum (only_at k x) (suc m)) same (omega (arith, only_at-here k x))
]
