use Rattle.std.proofs.Common.{◌≡◌, ℕ, List, length}
use Rattle.std.specs.List.{AllByRecursion}
use Rattle.proof_log.specs.Writable.{HasNoLineFeed}
use Rattle.log_checker.specs.Checkers.{with_feeds}
use Rattle.geo_discover.proofs.Putting.{IsMidway}
use Rattle.geo_discover.proofs.found_text.FoundText.put_lines.Given as goal

-- some lines are put, and the others left; the count of faults is as it was
abbrev pub invariant-loop-end : goal.invariant-loop-end
invariant-loop-end g l =
    ((lines : List (List ℕ)) → l.text ≡ with_feeds lines → AllByRecursion HasNoLineFeed lines
    → IsMidway lines l.rest l.initial.self.bytes l.self.bytes (g.K.Sink.held l.initial.sink) (g.K.Sink.held l.sink))
    × (g.K.Sink.faults l.sink ≡ g.K.Sink.faults l.initial.sink)

abbrev pub decreases-loop-end : goal.decreases-loop-end
decreases-loop-end g l = length l.rest
