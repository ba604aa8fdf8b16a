use Rattle.std.proofs.Common.{◌≡◌, ◌++◌, ◌+◌, drop}
use Rattle.geo_place.specs.Placing.{point_lines}
use Rattle.geo_place.proofs.naming.lines_of_points.Given as goal

-- the lines so far, and then those that are left, are all
abbrev pub invariant-loop-k : goal.invariant-loop-k
invariant-loop-k l = record { whole : l.lines.items ++ point_lines (l.k + 1) (drop l.k l.commands) ≡ point_lines 1 l.commands }
