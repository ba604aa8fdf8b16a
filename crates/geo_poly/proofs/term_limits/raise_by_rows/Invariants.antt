use Rattle.std.proofs.Common.{◌≡◌, List, ℕ, length, max, take}
use Rattle.geo_poly.specs.declared.rows.Row.{Row}
use Rattle.geo_poly.specs.declared.variables.Var.{Var}
use Rattle.geo_poly.specs.Inner.Keyed.{greatest_of_rows}
use Rattle.geo_poly.specs.Inner.Limits.{AreLimits, AreLimitsOfRows}
use Rattle.geo_poly.proofs.term_limits.raise_by_rows.Given as goal

abbrev pub invariant-loop-num : goal.invariant-loop-num
invariant-loop-num l = record {
  whole : length l.limits ≡ length l.initial.limits;
  limits : (vars : List Var) (rows : List Row) (bound : Var → ℕ) → AreLimitsOfRows vars rows l.nums → AreLimits vars bound l.initial.limits
      → AreLimits vars (λ v. max (greatest_of_rows v (take l.num-index rows)) (bound v)) l.limits;
}
