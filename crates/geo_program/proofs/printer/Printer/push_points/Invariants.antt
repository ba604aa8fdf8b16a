use Rattle.std.proofs.Common.{map, take}
use Rattle.geo_program.specs.Expressions.{point_lexeme}
use Rattle.geo_program.proofs.Spacing.{Appends}
use Rattle.geo_program.proofs.printer.Printer.push_points.Given as goal

-- the points so far
abbrev pub invariant-loop-point : goal.invariant-loop-point
invariant-loop-point l = Appends l.fn.out.items l.out.items (map (point_lexeme l.self.names) (take l.point-index l.points))
