use Rattle.std.proofs.Common.{take}
use Rattle.geo_poly.specs.Inner.Limits.{AreLimitsOfRows}
use Rattle.geo_poly.proofs.term_limits.limits_of_rows.Given as goal

abbrev pub invariant-loop-row : goal.invariant-loop-row
invariant-loop-row l = AreLimitsOfRows l.vars (take l.row-index l.rows) l.nums.items
