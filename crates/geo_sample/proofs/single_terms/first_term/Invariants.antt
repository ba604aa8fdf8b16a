use Rattle.std.proofs.Common.{◌≡◌, ◌++◌}
use Rattle.geo_poly.specs.Polynomials.{term_at}
use Rattle.geo_poly.specs.Shared.{IsIndexOf, told_powers}
use Rattle.geo_sample.proofs.single_terms.first_term.Given as goal

abbrev pub invariant-loop-first : goal.invariant-loop-first
invariant-loop-first l = record {
  index : IsIndexOf l.p l.rest;
  whole : l.powers.items ++ told_powers l.p l.rest ≡ (term_at l.poly 0).0;
}

abbrev pub decreases-loop-first : goal.decreases-loop-first
decreases-loop-first l = l.rest.0
