use Rattle.std.proofs.Common.{ℕ, ◌<◌, ◌^◌}
use Rattle.std.specs.Int.{IsGcd}
use Rattle.frac_laws.proofs.divisors.common_divisor.Given as goal

-- the pair at hand has the greatest common divisor that is asked for, and stays in range
abbrev pub invariant-loop-y : goal.invariant-loop-y
invariant-loop-y l = (l.x < 2 ^ 127) × (l.y < 2 ^ 127) × ((g : ℕ) → IsGcd l.x l.y g → IsGcd l.fn.a l.fn.b g)

abbrev pub decreases-loop-y : goal.decreases-loop-y
decreases-loop-y l = l.y
