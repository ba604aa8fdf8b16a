use Rattle.std.proofs.Common.{◌≡◌, ◌-◌, ◌^◌, ◌≤◌, min, max, drop}
use Rattle.geo_poly.specs.Replace.{degree_bound, most_denominators}
use Rattle.geo_poly.specs.Shared.{told}
use Rattle.geo_poly.proofs.replacement_bounds.degree_of_terms.Given as goal

abbrev pub invariant-loop-id : goal.invariant-loop-id
invariant-loop-id l = record {
  fits : l.degree ≤ 2 ^ 128 - 1;
  so_far : min (max l.degree (degree_bound l.rows l.den l.top (drop l.id-index (told l.p)))) (2 ^ 128 - 1) ≡ min (degree_bound l.rows l.den l.top (told l.p)) (2 ^ 128 - 1);
  top_fits : most_denominators l.rows (drop l.id-index (told l.p)) ≤ l.top;
}
