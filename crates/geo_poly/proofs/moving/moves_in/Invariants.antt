use Rattle.std.proofs.Common.{◌≡◌, ℕ, ◌<◌, length}
use Rattle.std.specs.Prelude.{slice_index_or}
use Rattle.geo_poly.specs.declared.moving.Move.TheVariants.{Unknown}
use Rattle.geo_poly.specs.Shared.{var_at}
use Rattle.geo_poly.specs.Inner.Moved.{IsMoveOf}
use Rattle.geo_poly.proofs.moving.moves_in.Given as goal

abbrev pub invariant-loop-v : goal.invariant-loop-v
invariant-loop-v l = record {
  whole : length l.moves.items ≡ l.v-index;
  each : (k : ℕ) → k < length l.moves.items → IsMoveOf l.rows l.vars (var_at l.former k) (slice_index_or l.moves.items k Unknown);
}
