use Rattle.std.proofs.Common.{◌≡◌, ℕ, ◌<◌, length}
use Rattle.std.specs.Prelude.{slice_index_or}
use Rattle.geo_poly.specs.declared.roles.Role.TheVariants.{Absent}
use Rattle.geo_poly.specs.Inner.Roles.{IsRole}
use Rattle.geo_poly.specs.Shared.{var_at}
use Rattle.geo_poly.proofs.roles.roles_of.Given as goal

abbrev pub invariant-loop-v : goal.invariant-loop-v
invariant-loop-v l = record {
  whole : length l.roles.items ≡ l.v-index;
  each : (k : ℕ) → k < length l.roles.items → IsRole l.rows l.vars (var_at l.former k) (slice_index_or l.roles.items k Absent);
}
