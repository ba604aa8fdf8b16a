use Rattle.std.proofs.Common.{◌≡◌, ℕ, List, length}
use Rattle.std.specs.List.{AllByRecursion}
use Rattle.proof_log.specs.Writable.{HasNoLineFeed}
use Rattle.geo_chain.specs.Inner.Texts.{with_ends}
use Rattle.geo_chain.specs.Written.{state}
use Rattle.geo_chain.proofs.FirstLines.{IsBetween}
use Rattle.geo_chain.proofs.program_lines.write_pieces.Given as goal

abbrev pub invariant-loop-end : goal.invariant-loop-end
invariant-loop-end g l =
    (lines : List (List ℕ)) → l.text ≡ with_ends lines → AllByRecursion HasNoLineFeed lines
    → IsBetween lines l.rest (state l.initial.log (g.K.Sink.held l.initial.sink) (g.K.Sink.faults l.initial.sink))
    (state l.log (g.K.Sink.held l.sink) (g.K.Sink.faults l.sink))

abbrev pub decreases-loop-end : goal.decreases-loop-end
decreases-loop-end g l = length l.rest
