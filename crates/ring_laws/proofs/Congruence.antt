-- Values may be exchanged for the same ones.
use Rattle.std.proofs.Common.{ℕ, zero as zeroₙ, []}
use Rattle.ring_laws.specs.Ring.{Ring}
use Rattle.ring_laws.specs.Solver.{Expression, variable, numeral, ◌⊞◌, ◌⊟◌, ◌⊠◌, opposite, value}

module _ (R : Ring) where
  open R use {carrier, same as ◌≈◌}

  infix 4 ◌≈◌
  pub value-same : (v w : ℕ → carrier) → ((k : ℕ) → v k ≈ w k) → (e : Expression) → value R v e ≈ value R w e
  value-same v w h (variable x) = h x
  value-same v w h (numeral k) = R.same_refl _
  value-same v w h (e ⊞ f) = R.add-same _ _ _ _ (value-same v w h e) (value-same v w h f)
  value-same v w h (e ⊟ f) = R.add-same _ _ _ _ (value-same v w h e) (R.neg-same _ _ (value-same v w h f))
  value-same v w h (e ⊠ f) = R.mul-same _ _ _ _ (value-same v w h e) (value-same v w h f)
  value-same v w h (opposite e) = R.neg-same _ _ (value-same v w h e)
