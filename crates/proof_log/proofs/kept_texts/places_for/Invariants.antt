use Rattle.std.proofs.Common.{◌-◌, ◌<◌}
use Rattle.proof_log.proofs.kept_texts.places_for.Given as goal

abbrev pub invariant-loop-places : goal.invariant-loop-places
invariant-loop-places l = 0 < l.places

abbrev pub decreases-loop-places : goal.decreases-loop-places
decreases-loop-places l = l.terms - l.places
