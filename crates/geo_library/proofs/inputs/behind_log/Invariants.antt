use Rattle.std.proofs.Common.{length}
use Rattle.geo_library.proofs.CuttingLogs.{Continues}
use Rattle.geo_library.proofs.inputs.behind_log.Given as goal

abbrev pub invariant-loop-at : goal.invariant-loop-at
invariant-loop-at l = Continues l.bytes l.rest

abbrev pub decreases-loop-at : goal.decreases-loop-at
decreases-loop-at l = length l.rest
