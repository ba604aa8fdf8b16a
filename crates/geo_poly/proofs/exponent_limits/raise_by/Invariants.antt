use Rattle.std.proofs.Common.{◌≡◌, ◌≤◌, ℕ, length}
use Rattle.std.specs.Prelude.{slice_index_or}
use Rattle.sparse_lists.specs.SparseLists.{IsCanonical}
use Rattle.geo_poly.specs.Monomials.{exponents}
use Rattle.geo_poly.specs.Shared.{IsIndexOf, told_powers}
use Rattle.geo_poly.specs.Variables.{var_cmp}
use Rattle.geo_poly.proofs.ExponentLimits.{IsRaised}
use Rattle.geo_poly.proofs.exponent_limits.raise_by.Given as goal

abbrev pub invariant-loop-first : goal.invariant-loop-first
invariant-loop-first l = record {
  index : IsIndexOf l.p l.rest;
  in_order : IsCanonical var_cmp exponents (told_powers l.p l.rest);
  whole : length l.numbers.items ≡ length l.p.vars.now;
  kept : (i : ℕ) → slice_index_or l.fn.numbers.items i 0 ≤ slice_index_or l.numbers.items i 0;
  raised : IsRaised l.p.vars.now l.numbers.items (told_powers l.p l.rest) (told_powers l.p l.fn.id);
}

abbrev pub decreases-loop-first : goal.decreases-loop-first
decreases-loop-first l = l.rest.0
