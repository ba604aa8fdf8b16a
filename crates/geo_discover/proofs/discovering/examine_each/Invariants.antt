use Rattle.std.proofs.Common.{◌≡◌, length}
use Rattle.std.specs.List.{AllByRecursion}
use Rattle.geo_program.specs.Programs.{source_of}
use Rattle.geo_discover.specs.Inner.Searching.{IsCandidate, progress}
use Rattle.geo_discover.specs.Inner.Sharing.{IsFigureOf}
use Rattle.geo_discover.specs.Inner.Walks.{candidates_left}
use Rattle.geo_discover.proofs.SearchSteps.{IsWalked}
use Rattle.geo_discover.proofs.discovering.examine_each.Given as goal

-- the first candidates are examined, and the others left; the count of faults and the steps are as they were, and the figure is still that of
-- the program
abbrev pub invariant-loop-statement : goal.invariant-loop-statement
invariant-loop-statement g l =
    IsWalked (source_of l.program) l.initial.figure.steps (candidates_left l.fn.all) (candidates_left l.left)
    (progress l.initial.search (g.K.Sink.held l.initial.sink)) (progress l.search (g.K.Sink.held l.sink))
    × (g.K.Sink.faults l.sink ≡ g.K.Sink.faults l.initial.sink)
    × (l.figure.steps ≡ l.initial.figure.steps)
    × IsFigureOf (source_of l.program) l.figure
    × AllByRecursion (IsCandidate (source_of l.program)) (candidates_left l.left)

abbrev pub decreases-loop-statement : goal.decreases-loop-statement
decreases-loop-statement g l = length (candidates_left l.left)
