use Rattle.std.proofs.Common.{◌≡◌, ℕ, ◌≤◌, max, drop, length, take}
use Rattle.geo_poly.specs.declared.rows.Piece.{Piece}
use Rattle.geo_poly.specs.declared.variables.Var.{Var}
use Rattle.geo_poly.specs.Inner.Keyed.{greatest_exponent, greatest_of_rows}
use Rattle.geo_poly.specs.Inner.Limits.{AreLimits}
use Rattle.geo_poly.specs.Inner.ReplacedExponents.{exponent_bound}
use Rattle.geo_poly.specs.Replace.{most_denominators}
use Rattle.geo_poly.specs.Shared.{told}
use Rattle.geo_poly.proofs.term_limits.raise_by_terms.Given as goal

abbrev pub invariant-loop-id : goal.invariant-loop-id
invariant-loop-id l = record {
  room : length l.sum ≡ length l.vars;
  whole : length l.limits ≡ length l.fn.limits;
  top_fits : most_denominators l.rows (drop l.id-index (told l.p)) ≤ l.top;
  so_far : (den : Piece) (bound : Var → ℕ) → AreLimits l.vars (λ v. greatest_exponent v den.poly) l.of_den
      → AreLimits l.vars bound l.fn.limits
      → AreLimits l.vars (λ v. max (exponent_bound v l.rows den l.top (take l.id-index (told l.p))) (max (greatest_of_rows v l.rows) (bound v))) l.limits;
}
