use Rattle.std.proofs.Common.{List}
use Rattle.geo_poly.specs.declared.rows.Row.{Row}
use Rattle.geo_poly.specs.Replace.{AllPowersSmall}
use Rattle.geo_poly.specs.Shared.{IsIndexOf, told_powers}
use Rattle.elim_apply.specs.Inner.Sketches.{AreKnown}
use Rattle.elim_apply.proofs.LineShares.{IsShareBefore}
use Rattle.elim_apply.proofs.shares.wide_share_of.Given as goal

abbrev pub invariant-loop-first : goal.invariant-loop-first
invariant-loop-first l = record {
  index : IsIndexOf l.p l.rest;
  so_far : (rows : List Row) → AllPowersSmall rows → AreKnown rows l.p.vars.now l.known
      → IsShareBefore rows (told_powers l.p l.rest) (told_powers l.p l.fn.id) l.share;
}

abbrev pub decreases-loop-first : goal.decreases-loop-first
decreases-loop-first l = l.rest.0
