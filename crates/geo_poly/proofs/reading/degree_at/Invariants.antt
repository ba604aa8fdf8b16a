use Rattle.std.proofs.Common.{◌≡◌, ◌+◌}
use Rattle.geo_poly.specs.Monomials.{degree_of}
use Rattle.geo_poly.specs.Shared.{IsIndexOf, told_powers}
use Rattle.geo_poly.proofs.reading.degree_at.Given as goal

abbrev pub invariant-loop-first : goal.invariant-loop-first
invariant-loop-first l = record {
  index : IsIndexOf l.p l.rest;
  whole : l.degree + degree_of (told_powers l.p l.rest) ≡ degree_of (told_powers l.p l.fn.id);
}

abbrev pub decreases-loop-first : goal.decreases-loop-first
decreases-loop-first l = l.rest.0
