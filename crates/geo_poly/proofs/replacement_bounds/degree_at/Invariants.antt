use Rattle.std.proofs.Common.{◌≡◌, ◌+◌, ◌-◌, ◌^◌, min}
use Rattle.geo_poly.specs.Monomials.{degree_of}
use Rattle.geo_poly.specs.Replace.{degree_rows, others, denominators}
use Rattle.geo_poly.specs.Shared.{IsIndexOf, told_powers}
use Rattle.geo_poly.proofs.replacement_bounds.degree_at.Given as goal

abbrev pub invariant-loop-first : goal.invariant-loop-first
invariant-loop-first l = record {
  index : IsIndexOf l.p l.rest;
  so_far : min (degree_rows l.rows (told_powers l.p l.rest) (l.degree + degree_of (others l.rows (told_powers l.p l.rest)))) (2 ^ 128 - 1)
      ≡ min (degree_rows l.rows (told_powers l.p l.fn.id) (degree_of (others l.rows (told_powers l.p l.fn.id)))) (2 ^ 128 - 1);
  missing-is : l.missing ≡ denominators l.rows (told_powers l.p l.rest) + (l.top - denominators l.rows (told_powers l.p l.fn.id));
}

abbrev pub decreases-loop-first : goal.decreases-loop-first
decreases-loop-first l = l.rest.0
