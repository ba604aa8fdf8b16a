use Rattle.std.proofs.Common.{◌+◌, ◌*◌, drop}
use Rattle.std.specs.Prelude.{sum_by}
use Rattle.elim_apply.specs.Inner.Sketches.{sketch, sketches}
use Rattle.geo_poly.specs.Shared.{told}
use Rattle.elim_apply.proofs.LineSizes.{IsSizeSoFar}
use Rattle.elim_apply.proofs.sizes.size_by_terms.Given as goal

abbrev pub invariant-loop-i : goal.invariant-loop-i
invariant-loop-i l =
    IsSizeSoFar (sketch l.rows l.den) l.top (l.den.charge + 4 * (sum_by (λ r. r.num.count) (sketches l.rows) + l.den.kb))
    (told l.p) (drop l.i (told l.p)) l.charge l.weight l.degree
