use Rattle.std.proofs.Common.{◌≡◌, arith}
use Rattle.std.specs.Prelude.{Some, None, slice_get}
use Rattle.std.proofs.lemmas.Grind.{common_steps}
use Rattle.std.proofs.lemmas.Option.{gets}
use Rattle.geo_place.proofs.Sketches.{position_found, position_past}
use Rattle.geo_place.proofs.sketch.Sketch.point.Goals as goal

pub returns-in-Some : goal.returns-in-Some
returns-in-Some c =
    let e : slice_get c.args.self.now.points.items c.args.a.0 ≡ Some c.in-Some.position.now = grind (arith, common_steps, gets) in
    position_found c.args.self.now c.args.a.0 c.in-Some.position.now e

pub returns-in-None : goal.returns-in-None
returns-in-None c =
    let e : slice_get c.args.self.now.points.items c.args.a.0 ≡ None = grind (arith, common_steps, gets) in
    position_past c.args.self.now c.args.a.0 c.origin.result e c.origin.ensures.x c.origin.ensures.y
