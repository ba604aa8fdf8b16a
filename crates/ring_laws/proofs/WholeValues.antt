-- The value of an expression in the ring of the whole numbers is the whole number that it comes to.
use Rattle.std.proofs.Common.{◌≡◌, ℕ, zero, suc, Bool, IsTrue, T, ℤ, pos, ◌+ℤ◌, ◌*ℤ◌, neg_ℤ, List, [], ◌∷◌, refl, sym, ◌∙◌, ap, ap₂, subst, arith}
use Rattle.std.proofs.lemmas.Int.{ints}
use Rattle.ring_laws.specs.Solver.{Expression, variable, numeral, ◌⊞◌, ◌⊟◌, ◌⊠◌, opposite, natural, value, Given, given, AllGivenHold}
use Rattle.ring_laws.specs.Laws.{whole_value, AllEquationsHold}
use Rattle.ring_laws.proofs.Integers.{integers}

natural-is : (k : ℕ) → natural integers k ≡ pos k
natural-is zero = refl
natural-is (suc k) = ap (λ z. z +ℤ pos 1) (natural-is k) ∙ omega (arith, ints)

pub value-is : (v : ℕ → ℤ) (e : Expression) → value integers v e ≡ whole_value v e
value-is v (variable x) = refl
value-is v (numeral k) = natural-is k
value-is v (e ⊞ f) = ap₂ ◌+ℤ◌ (value-is v e) (value-is v f)
value-is v (e ⊟ f) = ap₂ (λ a b. a +ℤ neg_ℤ b) (value-is v e) (value-is v f)
value-is v (e ⊠ f) = ap₂ ◌*ℤ◌ (value-is v e) (value-is v f)
value-is v (opposite e) = ap neg_ℤ (value-is v e)

pub given-hold : (v : ℕ → ℤ) (hs : List Given) → AllEquationsHold v hs → AllGivenHold integers v hs
given-hold v [] h = tt
given-hold v (given c a b ∷ hs) h = (value-is v a ∙ h.0 ∙ sym (value-is v b), given-hold v hs h.1)

pub decided : (b : Bool) → IsTrue b → T b
decided b h = subst T (sym h) tt
