use Rattle.std.proofs.Common.{◌≡◌, ℕ, ◌<◌, length}
use Rattle.mono_store.specs.Stores.{monomial_of}
use Rattle.geo_poly.specs.Inner.Visits.{AreKnown, AreMarked, AreVisited, IsMarked}
use Rattle.geo_poly.specs.PolynomialVariables.{variables_of}
use Rattle.geo_poly.specs.Shared.{told}
use Rattle.geo_poly.proofs.Told.{item}
use Rattle.geo_poly.proofs.polynomial_variables.numbers_of_links.Given as goal

abbrev pub invariant-loop-id : goal.invariant-loop-id
invariant-loop-id l = record {
  room : length l.known.items ≡ length l.p.vars.now;
  all : (i : ℕ) → i < l.id-index → AreMarked l.known.items (monomial_of l.p.monos.now (item l.p.list.now i).0);
  only : AreKnown l.p.vars.now l.known.items (variables_of (told l.p));
  visited : AreVisited l.p.monos.now l.visited.items l.known.items;
  before : (k : ℕ) → k < l.open → IsMarked l.known.items k;
}
