use Rattle.std.proofs.Common.{◌≡◌, take}
use Rattle.sparse_lists.specs.SparseLists.{AllKeys}
use Rattle.geo_poly.specs.Monomials.{IsMonomial}
use Rattle.geo_poly.specs.Polynomials.{multiples}
use Rattle.geo_poly.proofs.division.quotients.Given as goal

abbrev pub invariant-loop-term : goal.invariant-loop-term
invariant-loop-term l = record {
  so_far : multiples (l.monomial, l.coefficient) l.rest.items ≡ take l.term-index l.terms;
  monomials : AllKeys IsMonomial l.rest.items;
}
