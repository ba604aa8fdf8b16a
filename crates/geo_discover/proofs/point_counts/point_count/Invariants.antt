use Rattle.geo_discover.proofs.PointCounts.{CountsFrom}
use Rattle.geo_discover.proofs.point_counts.point_count.Given as goal

-- with so many points so far, the names that are left give all
abbrev pub invariant-loop-name : goal.invariant-loop-name
invariant-loop-name l = CountsFrom l.names l.name-index l.count
