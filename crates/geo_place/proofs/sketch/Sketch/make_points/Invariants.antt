use Rattle.std.proofs.Common.{length}
use Rattle.geo_place.proofs.PointTurns.{AreMade}
use Rattle.geo_place.proofs.sketch.Sketch.make_points.Given as goal

abbrev pub ghost-make_point : goal.ghost-make_point
ghost-make_point g a = g.run

abbrev pub invariant-loop : goal.invariant-loop
invariant-loop g l = AreMade g.run (length l.fn.self.points.items) l.to l.line l.counter l.self
