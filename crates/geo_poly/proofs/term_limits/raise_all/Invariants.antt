use Rattle.std.proofs.Common.{◌≡◌, ◌<◌, ◌≤◌, ℕ, length}
use Rattle.std.specs.Prelude.{slice_index_or}
use Rattle.geo_poly.proofs.term_limits.raise_all.Given as goal

abbrev pub invariant-loop-i : goal.invariant-loop-i
invariant-loop-i l = record {
  whole : length l.limits ≡ length l.initial.limits;
  seen : (j : ℕ) → j < l.i → j < length l.initial.limits → slice_index_or l.others j 0 ≤ slice_index_or l.limits j 0;
  kept : (j : ℕ) → slice_index_or l.initial.limits j 0 ≤ slice_index_or l.limits j 0;
}
