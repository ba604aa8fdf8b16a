use native.Mathlib.Nat as NatL
use Rattle.std.proofs.Common.{◌<◌, ◌%◌, subst, arith}
use Rattle.std.specs.Int.{IsGcd}
use Rattle.std.proofs.lemmas.Nat.Gcd.{IsGcd-from_zero, IsGcd-from_mod}
use Rattle.frac_laws.proofs.divisors.common_divisor.Goals as goal

pub loop-y-init : goal.loop-y-init
loop-y-init c = (c.requires.a_in, c.requires.b_in, λ g h. h)

pub loop-y-preserved : goal.loop-y-preserved
loop-y-preserved c = (
  c.loop-y.invariant.1,
  (let below : c.loop-y.x % c.loop-y.y < c.loop-y.y = NatL.mod-lt c.loop-y.x (omega arith) in omega (arith, c.remainder-rest.ensures)),
  λ g h. c.loop-y.invariant.2 g (IsGcd-from_mod c.loop-y.x c.loop-y.y g (subst (λ r. IsGcd c.loop-y.y r g) c.remainder-rest.ensures h)),
)

pub returns-clause-greatest : goal.returns-clause-greatest
returns-clause-greatest c = c.loop-y.invariant.2 c.loop-y.x (IsGcd-from_zero c.loop-y.x c.loop-y.y c.loop-y-test.false)
