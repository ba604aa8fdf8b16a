-- Powers in a ring.
use Rattle.std.specs.Prelude.{ℕ, zero, suc}
use Rattle.ring_laws.specs.Ring.{Ring}

-- x to the power n: the product of n factors x
abbrev pub power : (R : Ring) → R.carrier → ℕ → R.carrier
power R x zero = R.one
power R x (suc n) = R.mul (power R x n) x
