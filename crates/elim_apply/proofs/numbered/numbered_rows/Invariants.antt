use Rattle.std.proofs.Common.{◌≡◌, take}
use Rattle.std.specs.List.{filter_map}
use Rattle.elim_apply.specs.Inner.Sketches.{numbered_row}
use Rattle.elim_apply.specs.Kept.{AreKnownRows}
use Rattle.elim_apply.proofs.numbered.numbered_rows.Given as goal

abbrev pub invariant-loop-v : goal.invariant-loop-v
invariant-loop-v l = record {
  rows : l.numbered.items ≡ filter_map (numbered_row l.steps l.mv) (take l.v-index l.variables);
  known : AreKnownRows l.steps l.known;
}
