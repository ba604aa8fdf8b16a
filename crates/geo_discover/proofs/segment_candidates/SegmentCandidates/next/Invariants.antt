use Rattle.std.proofs.Common.{◌≡◌, length}
use Rattle.geo_discover.specs.Inner.Walks.{related_left, segments_left}
use Rattle.geo_discover.proofs.segment_candidates.SegmentCandidates.next.Given as goal

-- the candidates that are left are those that were left
abbrev pub invariant-loop-two : goal.invariant-loop-two
invariant-loop-two l = related_left l.initial.self ≡ related_left l.self

abbrev pub decreases-loop-two : goal.decreases-loop-two
decreases-loop-two l = length (segments_left l.self.segments)
