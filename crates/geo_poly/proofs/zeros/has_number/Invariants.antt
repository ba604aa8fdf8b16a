use Rattle.std.proofs.Common.{◌≡◌}
use Rattle.sparse_lists.specs.SparseLists.{IsCanonical}
use Rattle.geo_poly.specs.Monomials.{exponent, exponents}
use Rattle.geo_poly.specs.Shared.{IsIndexOf, told_powers, var_at}
use Rattle.geo_poly.specs.Variables.{var_cmp}
use Rattle.geo_poly.proofs.zeros.has_number.Given as goal

abbrev pub invariant-loop-first : goal.invariant-loop-first
invariant-loop-first l = record {
  index : IsIndexOf l.p l.rest;
  in_order : IsCanonical var_cmp exponents (told_powers l.p l.rest);
  same : exponent (var_at l.p.vars.now l.number) (told_powers l.p l.rest) ≡ exponent (var_at l.p.vars.now l.number) (told_powers l.p l.fn.id);
}

abbrev pub decreases-loop-first : goal.decreases-loop-first
decreases-loop-first l = l.rest.0
