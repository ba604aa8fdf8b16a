use Rattle.std.proofs.Common.{◌≡◌, take}
use Rattle.sparse_lists.specs.SparseLists.{AllKeys}
use Rattle.geo_poly.specs.Inner.WordDivisors.{divisor_powers}
use Rattle.geo_poly.specs.Monomials.{IsMonomial}
use Rattle.geo_poly.specs.Polynomials.{multiples}
use Rattle.geo_poly.specs.Shared.{IsIndexOf, terms_of, told}
use Rattle.geo_poly.proofs.word_division.word_quotients.Given as goal

abbrev pub invariant-loop-id : goal.invariant-loop-id
invariant-loop-id l = record {
  so_far : multiples (divisor_powers l.p l.by, l.number) (terms_of l.p.vars.now l.p.monos.now l.list.items) ≡ take l.id-index (told l.p);
  indices : AllKeys (IsIndexOf l.p) l.list.items;
  monomials : AllKeys IsMonomial (terms_of l.p.vars.now l.p.monos.now l.list.items);
}
