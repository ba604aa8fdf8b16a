use Rattle.std.proofs.Common.{◌≡◌, List, max, drop}
use Rattle.geo_poly.specs.declared.rows.Row.{Row}
use Rattle.geo_poly.specs.Replace.{most_denominators}
use Rattle.geo_poly.specs.Shared.{told}
use Rattle.elim_apply.specs.Inner.Shares.{AreShares}
use Rattle.elim_apply.proofs.sizes.most_denominators.Given as goal

abbrev pub invariant-loop-i : goal.invariant-loop-i
invariant-loop-i l =
    (rows : List Row) → AreShares rows l.p l.shares → max l.most (most_denominators rows (drop l.i (told l.p))) ≡ most_denominators rows (told l.p)
