use Rattle.std.proofs.Common.{◌≡◌, ◌+◌, ◌-◌, length}
use Rattle.geo_cli.proofs.ReadLogs.{IsReading}
use Rattle.geo_cli.proofs.judging.judge_input.Given as goal

abbrev pub invariant-loop-checker : goal.invariant-loop-checker
invariant-loop-checker g l = record {
  reading : IsReading l.steps (g.S.Source.left l.initial.source) (g.S.Source.left l.source) l.reader l.checker;
  faults : g.S.Source.faults l.source ≡ g.S.Source.faults l.initial.source;
}

-- the bytes that may still be handed out
abbrev pub decreases-loop-checker : goal.decreases-loop-checker
decreases-loop-checker g l = (67108864 + length l.reader.waiting) - l.reader.taken
