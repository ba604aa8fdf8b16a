use Rattle.geo_poly.proofs.Capped.{WeightProgress}
use Rattle.geo_poly.specs.Shared.{IsIndexOf, told_powers}
use Rattle.geo_poly.proofs.replacement_bounds.weight_at.Given as goal

abbrev pub invariant-loop-first : goal.invariant-loop-first
invariant-loop-first l = record {
  index : IsIndexOf l.p l.rest;
  progress : WeightProgress l.rows l.top (told_powers l.p l.fn.t.0) l.fn.t.1 (told_powers l.p l.rest) l.weight l.missing;
}

abbrev pub decreases-loop-first : goal.decreases-loop-first
decreases-loop-first l = l.rest.0
