-- Identities that follow from equations, by cofactors.
use Rattle.std.proofs.Common.{ℕ, T, List, [], ◌∷◌}
use Rattle.ring_laws.specs.Ring.{Ring}
use Rattle.ring_laws.specs.Solver.{Expression, ◌⊟◌, ◌⊠◌, normal_form, is_zero, value, Given, given, combined, AllGivenHold}
use Rattle.ring_laws.proofs.Laws as Laws
use Rattle.ring_laws.proofs.Sound as Sound

module _ (R : Ring) (v : ℕ → R.carrier) where
  open R use {carrier, same as ◌≈◌, add as ◌+◌, mul as ◌*◌, neg, zero, one}

  infix 4 ◌≈◌
  infixl 6 ◌+◌
  infixl 7 ◌*◌
  infixr 3 ◌∘◌
  ◌∘◌ : {a b c : carrier} → a ≈ b → b ≈ c → a ≈ c
  ◌∘◌ p q = R.same_trans _ _ _ p q

  self : {a : carrier} → a ≈ a
  self {a} = R.same_refl a

  -- what is taken away for equations that hold is 0
  combined-value : (hs : List Given) (e : Expression) → AllGivenHold R v hs → value R v (combined hs e) ≈ value R v e
  combined-value [] e h = self
  combined-value (given c a b ∷ hs) e h =
      combined-value hs (e ⊟ c ⊠ (a ⊟ b)) h.1
      ∘ R.add-same _ _ _ _ self
      (R.neg-same _ _ (R.mul-same _ _ _ _ self (Laws.sub_of_same R (value R v a) (value R v b) h.0) ∘ Laws.mul-zero R (value R v c)) ∘ Laws.neg-zero R)
      ∘ R.add-zero (value R v e)

  -- expressions that the solver finds equal by given equations have the same value where the equations hold
  pub by_combination : (hs : List Given) (e f : Expression) → AllGivenHold R v hs → T (is_zero (normal_form (combined hs (e ⊟ f)))) → value R v e ≈ value R v f
  by_combination hs e f h z =
      Laws.same_of_sub R (value R v e) (value R v f)
      (R.same_sym _ _ (combined-value hs (e ⊟ f) h) ∘ Sound.vanishes R v (combined hs (e ⊟ f)) z)
