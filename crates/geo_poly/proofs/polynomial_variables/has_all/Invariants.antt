use Rattle.std.proofs.Common.{ℕ, ◌<◌, slice_index_or}
use Rattle.std.specs.Prelude.{Contains}
use Rattle.geo_poly.specs.declared.variables.Var.{Var}
use Rattle.geo_poly.proofs.polynomial_variables.has_all.Given as goal

abbrev pub invariant-loop-v : goal.invariant-loop-v
invariant-loop-v l = (k : ℕ) (d : Var) → k < l.v-index → Contains l.list (slice_index_or l.others k d)
