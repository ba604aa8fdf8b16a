use Rattle.std.proofs.Common.{rules, pos}
use Rattle.std.specs.Prelude.{◌≤ℤ◌, ◌<ℤ◌}
use Rattle.geo_place.specs.Reckonings.{known}
use Rattle.geo_place.proofs.ResultLaws.{known_result}
use Rattle.geo_figure.proofs.BoundLaws.{greater_first, greater_second}
use Rattle.geo_figure.proofs.bounds.greater_of.Goals as goal

pub returns-then-above-gt0 : goal.returns-then-above-gt0
returns-then-above-gt0 c =
    let sign : pos 0 <ℤ c.in-Ok.above.num = search rules in λ a b ha hb.
    greater_first c.args.greatest c.args.x c.in-Ok.above a b ha hb (c.in-Ok.ensures (known b) (known a) (known_result c.args.x b hb) (known_result c.args.greatest a ha)) sign

pub returns-else-above-gt0 : goal.returns-else-above-gt0
returns-else-above-gt0 c =
    let sign : c.in-Ok.above.num ≤ℤ pos 0 = search rules in λ a b ha hb.
    greater_second c.args.greatest c.args.x c.in-Ok.above a b ha hb (c.in-Ok.ensures (known b) (known a) (known_result c.args.x b hb) (known_result c.args.greatest a ha)) sign

pub returns-in-Err : goal.returns-in-Err
returns-in-Err c = λ a b ha hb. c.in-Err.ensures (known b) (known a) (known_result c.args.x b hb) (known_result c.args.greatest a ha)
