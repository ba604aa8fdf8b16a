use Rattle.std.proofs.Common.{◌≡◌, max, drop}
use Rattle.geo_poly.specs.Replace.{most_denominators}
use Rattle.geo_poly.specs.Shared.{told}
use Rattle.geo_poly.proofs.replacement_bounds.most_denominators_of.Given as goal

abbrev pub invariant-loop-id : goal.invariant-loop-id
invariant-loop-id l = max l.most (most_denominators l.rows (drop l.id-index (told l.p))) ≡ most_denominators l.rows (told l.p)
