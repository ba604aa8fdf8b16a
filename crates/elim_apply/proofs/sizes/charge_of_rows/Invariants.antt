use Rattle.std.proofs.Common.{◌≡◌, ◌+◌, ◌-◌, ◌^◌, ◌≤◌, min, drop}
use Rattle.std.specs.Prelude.{sum_by}
use Rattle.elim_apply.specs.Inner.Sketches.{sketches}
use Rattle.elim_apply.proofs.sizes.charge_of_rows.Given as goal

abbrev pub invariant-loop-row : goal.invariant-loop-row
invariant-loop-row l = record {
  fits : l.counts ≤ 2 ^ 128 - 1;
  so_far : min (l.counts + sum_by (λ r. r.num.count) (sketches (drop l.row-index l.rows))) (2 ^ 128 - 1) ≡ min (sum_by (λ r. r.num.count) (sketches l.rows)) (2 ^ 128 - 1);
}
