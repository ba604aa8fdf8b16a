use Rattle.std.proofs.Common.{◌+◌, ◌*◌, length}
use Rattle.geo_poly.proofs.nested.+nested_sum.Given as goal

-- terms are a group that is summed, a group is summed as parts, and each part is of fewer terms
abbrev pub decreases-nested_sum : goal.decreases-nested_sum
decreases-nested_sum g l = 3 * length l.pending.now + 2

abbrev pub decreases-group_sum : goal.decreases-group_sum
decreases-group_sum g l = 3 * length l.pending.now + 1

abbrev pub decreases-parts_sum : goal.decreases-parts_sum
decreases-parts_sum g l = 3 * length l.pending.now
