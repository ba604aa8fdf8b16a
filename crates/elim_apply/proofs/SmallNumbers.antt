-- Products with powers, where they are small.
use Rattle.std.proofs.Common.{◌≡◌, ℕ, ◌*◌, ◌^◌, Option, Some, None, refl, ap, sym, ◌∙◌, arith}
use Rattle.std.specs.Prelude.{IfSome, SomeIff}
use Rattle.std.proofs.Math.Nat.{pow-suc, pow-zero}

pub power_one : (b e : ℕ) → e ≡ 1 → b ^ e ≡ b
power_one b e one =
    let first : b ^ 1 ≡ 1 * b = pow-suc b 0 ∙ ap (λ (y : ℕ). y * b) (pow-zero b) in
    ap (λ (y : ℕ). b ^ y) one ∙ first ∙ (let same : 1 * b ≡ b = omega arith in same)

pub power_two : (b e : ℕ) → e ≡ 2 → b ^ e ≡ b * b
power_two b e two = ap (λ (y : ℕ). b ^ y) two ∙ pow-suc b 1 ∙ ap (λ (y : ℕ). y * b) (power_one b 1 refl)

-- what is answered where it fits
pub if_it_fits : (o : Option ℕ) (P : Type 0) (v w : ℕ) → SomeIff o P v → v ≡ w → IfSome o (λ n. n ≡ w)
if_it_fits None P v w h is = tt
if_it_fits (Some x) P v w h is = h.1 ∙ is

-- times a number twice
pub times_twice : (n a b base e : ℕ) → n ≡ a * b → b ≡ base → e ≡ 2 → n * b ≡ a * base ^ e
times_twice n a b base e is same two =
    ap (λ k. k * b) is ∙ square a b ∙ ap (λ k. a * (k * k)) same ∙ ap (λ k. a * k) (sym (power_two base e two))
  where
    square : (a b : ℕ) → a * b * b ≡ a * (b * b)
    square a b = omega arith
