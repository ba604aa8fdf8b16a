use Rattle.std.proofs.Common.{◌≡◌, arith}
use Rattle.std.specs.Prelude.{Some, None, slice_get}
use Rattle.std.proofs.lemmas.Grind.{common_steps}
use Rattle.std.proofs.lemmas.Option.{gets}
use Rattle.geo_place.proofs.Sketches.{number_found, number_past}
use Rattle.geo_place.proofs.sketch.Sketch.number.Goals as goal

pub returns-in-Some : goal.returns-in-Some
returns-in-Some c =
    let e : slice_get c.args.self.now.numbers.items c.args.t.0 ≡ Some c.in-Some.number.now = grind (arith, common_steps, gets) in
    number_found c.args.self.now c.args.t.0 c.in-Some.number.now e

pub returns-in-None : goal.returns-in-None
returns-in-None c =
    let e : slice_get c.args.self.now.numbers.items c.args.t.0 ≡ None = grind (arith, common_steps, gets) in
    number_past c.args.self.now c.args.t.0 c.whole_number.result e c.whole_number.ensures
