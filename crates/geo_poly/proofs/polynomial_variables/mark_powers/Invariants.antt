use Rattle.std.proofs.Common.{◌≡◌, List, length}
use Rattle.std.specs.Prelude.{Contains}
use Rattle.sparse_lists.specs.SparseLists.{AllKeys}
use Rattle.geo_poly.specs.declared.variables.Var.{Var}
use Rattle.geo_poly.specs.Inner.Visits.{AreKnown, Extends}
use Rattle.geo_poly.specs.Shared.{IsIndexOf, told_powers}
use Rattle.geo_poly.proofs.MarkedVariables.{Walking}
use Rattle.geo_poly.proofs.polynomial_variables.mark_powers.Given as goal

abbrev pub invariant-loop-link : goal.invariant-loop-link
invariant-loop-link l = record {
  index : IsIndexOf l.p l.rest;
  room : length l.known.items ≡ length l.p.vars.now;
  kept : Extends l.fn.known.items l.known.items;
  walking : Walking l.p.monos.now l.visited.items l.known.items l.rest.0 l.fn.id;
  only : (keys : List Var) → AllKeys (Contains keys) (told_powers l.p l.fn.id) → AreKnown l.p.vars.now l.fn.known.items keys
      → AreKnown l.p.vars.now l.known.items keys × AllKeys (Contains keys) (told_powers l.p l.rest);
}

abbrev pub decreases-loop-link : goal.decreases-loop-link
decreases-loop-link l = l.rest.0
