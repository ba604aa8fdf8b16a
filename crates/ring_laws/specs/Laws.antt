-- The laws that stand on the functions of `theorems`. They speak of whole numbers alone.
use Rattle.std.specs.Prelude.{◌≡◌, ℕ, ℤ, pos, ◌+ℤ◌, ◌-ℤ◌, ◌*ℤ◌, neg_ℤ, IsTrue, List, [], ◌∷◌}
use Rattle.ring_laws.specs.Solver.{Expression, variable, numeral, ◌⊞◌, ◌⊟◌, ◌⊠◌, opposite, agrees, follows, Given, given}

-- the whole number that an expression comes to, where its variables stand for whole numbers
abbrev pub whole_value : (ℕ → ℤ) → Expression → ℤ
whole_value v (variable x) = v x
whole_value v (numeral k) = pos k
whole_value v (e ⊞ f) = whole_value v e +ℤ whole_value v f
whole_value v (e ⊟ f) = whole_value v e -ℤ whole_value v f
whole_value v (e ⊠ f) = whole_value v e *ℤ whole_value v f
whole_value v (opposite e) = neg_ℤ (whole_value v e)

-- each of the given equations holds for these whole numbers
abbrev pub AllEquationsHold : (ℕ → ℤ) → List Given → Type 0
AllEquationsHold v [] = Unit {0}
AllEquationsHold v (given c a b ∷ hs) = (whole_value v a ≡ whole_value v b) × AllEquationsHold v hs

-- expressions that the solver finds equal come to the same whole number
abbrev pub SolverIsSound : Type 0
SolverIsSound = (v : ℕ → ℤ) (e f : Expression) → IsTrue (agrees e f) → whole_value v e ≡ whole_value v f

-- so do expressions that the solver finds equal by given equations, wherever these hold
abbrev pub CombinationIsSound : Type 0
CombinationIsSound =
    (v : ℕ → ℤ) (hs : List Given) (e f : Expression) → AllEquationsHold v hs → IsTrue (follows hs e f) → whole_value v e ≡ whole_value v f

-- the whole numbers meet the laws of a commutative ring
abbrev pub WholeNumbersAreARing : Type 0
WholeNumbersAreARing =
    (a b c : ℤ) → (a +ℤ b ≡ b +ℤ a)
    × (a +ℤ b +ℤ c ≡ a +ℤ (b +ℤ c))
    × (a +ℤ pos 0 ≡ a)
    × (a +ℤ neg_ℤ a ≡ pos 0)
    × (a *ℤ b ≡ b *ℤ a)
    × (a *ℤ b *ℤ c ≡ a *ℤ (b *ℤ c))
    × (a *ℤ pos 1 ≡ a)
    × (a *ℤ (b +ℤ c) ≡ a *ℤ b +ℤ a *ℤ c)
