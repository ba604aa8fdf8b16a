use Rattle.std.proofs.Common.{◌≡◌, ℕ, ◌<◌, None, length}
use Rattle.std.specs.Prelude.{slice_index_or}
use Rattle.geo_poly.specs.Shared.{var_at}
use Rattle.geo_poly.specs.Inner.Moved.{IsPlaceOf}
use Rattle.geo_poly.proofs.moving.places_in.Given as goal

abbrev pub invariant-loop-v : goal.invariant-loop-v
invariant-loop-v l = record {
  whole : length l.places.items ≡ l.v-index;
  each : (k : ℕ) → k < length l.places.items → IsPlaceOf l.vars (var_at l.former k) (slice_index_or l.places.items k None);
}
