use Rattle.std.proofs.Common.{◌≡◌, Some, map, take}
use Rattle.elim_apply.specs.Kept.{AreKnownRows}
use Rattle.elim_apply.specs.LemmaTable.{lemma_table}
use Rattle.elim_apply.proofs.made.made_rows.Given as goal

abbrev pub invariant-loop-row : goal.invariant-loop-row
invariant-loop-row l = record {
  rows : map Some l.items.items ≡ map (λ n. lemma_table.row l.steps l.mv n.var) (take l.row-index l.numbered);
  known : AreKnownRows l.steps l.known;
}
