use Rattle.std.proofs.Common.{◌≡◌, List}
use Rattle.geo_poly.specs.declared.rows.Row.{Row}
use Rattle.geo_poly.specs.Shared.{IsIndexOf, told_powers}
use Rattle.elim_apply.specs.Inner.Shares.{no_power, with_powers}
use Rattle.elim_apply.specs.Inner.Sketches.{AreKnown}
use Rattle.elim_apply.proofs.small_shares.small_share_of.Given as goal

abbrev pub invariant-loop-first : goal.invariant-loop-first
invariant-loop-first l = record {
  index : IsIndexOf l.p l.rest;
  so_far : (rows : List Row) → AreKnown rows l.p.vars.now l.known
      → with_powers rows (told_powers l.p l.rest) l.share ≡ with_powers rows (told_powers l.p l.fn.id) no_power;
}

abbrev pub decreases-loop-first : goal.decreases-loop-first
decreases-loop-first l = l.rest.0
