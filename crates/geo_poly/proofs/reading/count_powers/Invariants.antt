use Rattle.std.proofs.Common.{◌≡◌, ◌+◌, ◌≤◌, length}
use Rattle.geo_poly.specs.Shared.{IsIndexOf, told_powers}
use Rattle.geo_poly.proofs.reading.count_powers.Given as goal

abbrev pub invariant-loop-first : goal.invariant-loop-first
invariant-loop-first l = record {
  index : IsIndexOf l.p l.rest;
  few : l.count + l.rest.0 ≤ l.fn.id.0;
  whole : l.count + length (told_powers l.p l.rest) ≡ length (told_powers l.p l.fn.id);
}

abbrev pub decreases-loop-first : goal.decreases-loop-first
decreases-loop-first l = l.rest.0
