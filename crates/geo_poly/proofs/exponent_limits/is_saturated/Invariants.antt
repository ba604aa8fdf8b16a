use Rattle.std.proofs.Common.{ℕ, ◌-◌, ◌^◌, ◌<◌}
use Rattle.std.specs.Prelude.{slice_index_or}
use Rattle.geo_poly.proofs.exponent_limits.is_saturated.Given as goal

abbrev pub invariant-loop-number : goal.invariant-loop-number
invariant-loop-number l = (i : ℕ) → i < l.number-index → slice_index_or l.numbers i 0 < 2 ^ 32 - 1
