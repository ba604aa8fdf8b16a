-- The laws of powers.
use native.Mathlib.Nat as NatL
use Rattle.std.proofs.Common.{ℕ, zero as zeroₙ, suc, ◌+◌ as ◌+ₙ◌, ◌*◌ as ◌*ₙ◌, [], ◌∷◌, subst, sym}
use Rattle.ring_laws.specs.Ring.{Ring}
use Rattle.ring_laws.specs.Solver.{variable, ◌⊠◌, entry_at}
use Rattle.ring_laws.specs.Powers.{power}
use Rattle.ring_laws.proofs.Sound.{agree}

module _ (R : Ring) where
  open R use {carrier, same as ◌≈◌, add as ◌+◌, mul as ◌*◌, neg, zero, one}

  infix 4 ◌≈◌
  infixl 6 ◌+◌
  infixl 7 ◌*◌
  infixr 3 ◌∘◌
  ◌∘◌ : {a b c : carrier} → a ≈ b → b ≈ c → a ≈ c
  ◌∘◌ p q = R.same_trans _ _ _ p q

  self : {a : carrier} → a ≈ a
  self {a} = R.same_refl a

  times : {a b c d : carrier} → a ≈ b → c ≈ d → a * c ≈ b * d
  times p q = R.mul-same _ _ _ _ p q

  pub power-add : (x : carrier) (m n : ℕ) → power R x (m +ₙ n) ≈ power R x m * power R x n
  power-add x m zeroₙ = subst (λ k. power R x k ≈ power R x m * one) (sym (NatL.add-zero m)) (R.same_sym _ _ (R.mul-one (power R x m)))
  power-add x m (suc n) =
      subst (λ k. power R x k ≈ power R x m * (power R x n * x)) (sym (NatL.add-suc m n))
      (times (power-add x m n) self ∘ R.mul_assoc (power R x m) (power R x n) x)

  pub power-times : (x y : carrier) (n : ℕ) → power R (x * y) n ≈ power R x n * power R y n
  power-times x y zeroₙ = R.same_sym _ _ (R.mul-one one)
  power-times x y (suc n) =
      let a = variable 0 in let b = variable 1 in let p = variable 2 in let q = variable 3 in
      times (power-times x y n) self ∘ agree R (entry_at R (x ∷ y ∷ power R x n ∷ power R y n ∷ [])) (p ⊠ q ⊠ (a ⊠ b)) (p ⊠ a ⊠ (q ⊠ b)) tt

  pub power-same : (x y : carrier) (n : ℕ) → x ≈ y → power R x n ≈ power R y n
  power-same x y zeroₙ h = self
  power-same x y (suc n) h = times (power-same x y n h) h

  pub power-power : (x : carrier) (k n : ℕ) → power R (power R x k) n ≈ power R x (k *ₙ n)
  power-power x k zeroₙ = subst (λ j. one ≈ power R x j) (sym (NatL.mul-zero k)) self
  power-power x k (suc n) =
      subst (λ j. power R (power R x k) n * power R x k ≈ power R x j) (sym (NatL.mul-suc k n))
      (times (power-power x k n) self ∘ R.same_sym _ _ (power-add x (k *ₙ n) k))
