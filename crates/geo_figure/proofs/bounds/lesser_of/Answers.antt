use Rattle.std.proofs.Common.{rules, pos}
use Rattle.std.specs.Prelude.{◌≤ℤ◌, ◌<ℤ◌}
use Rattle.geo_place.specs.Reckonings.{known}
use Rattle.geo_place.proofs.ResultLaws.{known_result}
use Rattle.geo_figure.proofs.BoundLaws.{lesser_first, lesser_second}
use Rattle.geo_figure.proofs.bounds.lesser_of.Goals as goal

pub returns-then-below-lt0 : goal.returns-then-below-lt0
returns-then-below-lt0 c =
    let sign : c.in-Ok.below.num <ℤ pos 0 = search rules in λ a b ha hb.
    lesser_first c.args.least c.args.x c.in-Ok.below a b ha hb (c.in-Ok.ensures (known b) (known a) (known_result c.args.x b hb) (known_result c.args.least a ha)) sign

pub returns-else-below-lt0 : goal.returns-else-below-lt0
returns-else-below-lt0 c =
    let sign : pos 0 ≤ℤ c.in-Ok.below.num = search rules in λ a b ha hb.
    lesser_second c.args.least c.args.x c.in-Ok.below a b ha hb (c.in-Ok.ensures (known b) (known a) (known_result c.args.x b hb) (known_result c.args.least a ha)) sign

pub returns-in-Err : goal.returns-in-Err
returns-in-Err c = λ a b ha hb. c.in-Err.ensures (known b) (known a) (known_result c.args.x b hb) (known_result c.args.least a ha)
