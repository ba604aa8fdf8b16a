use Rattle.std.proofs.Common.{◌≡◌, ◌+◌, ◌-◌, ◌≤◌, length, vec_len}
use Rattle.geo_base.specs.Devices.{Loses}
use Rattle.geo_base.proofs.reading.read_all.Given as goal

abbrev pub invariant-loop-piece : goal.invariant-loop-piece
invariant-loop-piece g l = record {
  room : length l.piece ≡ 4096;
  most : l.most ≡ l.limit + 1;
  within : vec_len l.bytes ≤ l.most;
  taken : Loses (g.S.Source.left l.initial.source) l.bytes.items (g.S.Source.left l.source);
  still : g.S.Source.faults l.source ≡ g.S.Source.faults l.initial.source;
}

abbrev pub decreases-loop-piece : goal.decreases-loop-piece
decreases-loop-piece g l = l.most - vec_len l.bytes
