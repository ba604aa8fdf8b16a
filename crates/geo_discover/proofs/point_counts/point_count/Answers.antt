use Rattle.std.proofs.Common.{arith}
use Rattle.geo_discover.proofs.PointCounts.{counts_all, counts_first, counts_on}
use Rattle.geo_discover.proofs.point_counts.point_count.Goals as goal

pub loop-name-init : goal.loop-name-init
loop-name-init c = counts_first c.args.names.now

pub loop-name-preserved : goal.loop-name-preserved
loop-name-preserved c =
    counts_on c.args.names.now c.loop-name.name-index c.loop-name.count _ c.name-item.result c.loop-name-test.true c.name-item.is
    c.in_ok-count.ensures c.loop-name.invariant

pub returns : goal.returns
returns c = counts_all c.args.names.now c.loop-name.name-index c.loop-name.count (omega (arith, c.loop-name-test.false)) c.loop-name.invariant
