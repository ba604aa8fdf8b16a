use Rattle.std.proofs.Common.{◌≡◌, ◌+◌, ◌-◌, ◌^◌, ◌≤◌, min, drop}
use Rattle.geo_poly.specs.Replace.{weight_of, most_denominators}
use Rattle.geo_poly.specs.Shared.{told}
use Rattle.geo_poly.proofs.replacement_bounds.weight_of_terms.Given as goal

abbrev pub invariant-loop-t : goal.invariant-loop-t
invariant-loop-t l = record {
  fits : l.weight ≤ 2 ^ 128 - 1;
  so_far : min (l.weight + weight_of l.rows l.den l.top (drop l.t-index (told l.p))) (2 ^ 128 - 1) ≡ min (weight_of l.rows l.den l.top (told l.p)) (2 ^ 128 - 1);
  top_fits : most_denominators l.rows (drop l.t-index (told l.p)) ≤ l.top;
}
