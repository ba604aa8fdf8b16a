use Rattle.std.proofs.Common.{◌≡◌, ◌+◌, ◌*◌, ◌-◌, ◌^◌, ◌<◌, ◌≤◌, ℕ, length, min}
use Rattle.std.specs.Prelude.{slice_index_or}
use Rattle.geo_poly.proofs.term_limits.add_multiples.Given as goal

abbrev pub invariant-loop-i : goal.invariant-loop-i
invariant-loop-i l = record {
  whole : length l.limits ≡ length l.initial.limits;
  summed : (j : ℕ) → j < l.i → j < length l.initial.limits
      → slice_index_or l.limits j 0
      ≡ min (slice_index_or l.initial.limits j 0 + min (slice_index_or l.others j 0 * l.times) (2 ^ 32 - 1)) (2 ^ 32 - 1);
  kept : (j : ℕ) → l.i ≤ j → slice_index_or l.limits j 0 ≡ slice_index_or l.initial.limits j 0;
}
