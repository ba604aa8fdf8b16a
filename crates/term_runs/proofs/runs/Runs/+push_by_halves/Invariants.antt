use Rattle.std.proofs.Common.{length}
use Rattle.term_runs.proofs.runs.Runs.+push_by_halves.Given as goal

abbrev pub decreases-push_by_halves : goal.decreases-push_by_halves
decreases-push_by_halves g l = length l.left.now
