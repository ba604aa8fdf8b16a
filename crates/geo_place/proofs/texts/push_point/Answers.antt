use Rattle.std.proofs.Common.{rules, ◌≡◌, ◌∷◌, ◌++◌}
use Rattle.std.specs.Fmt.{signed_decimal}
use Rattle.geo_place.proofs.PointLines.{line_joined}
use Rattle.geo_place.proofs.texts.push_point.Goals as goal

pub returns : goal.returns
returns c =
    let a = c.args.at.now in
    let one : c.extend_from_slice.new.self.items ≡ c.args.out.now.items ++ a.name = search rules in
    let two : c.push_number.new.out.items ≡ c.extend_from_slice.new.self.items ++ 32 ∷ signed_decimal a.x = search rules in
    let three : c.push_number-2.new.out.items ≡ c.push_number.new.out.items ++ 32 ∷ signed_decimal a.y = search rules in
    let four : c.push_number-3.new.out.items ≡ c.push_number-2.new.out.items ++ 32 ∷ signed_decimal a.w = search rules in
    line_joined c.args.out.now.items a.name (signed_decimal a.x) (signed_decimal a.y)
    (signed_decimal a.w) c.extend_from_slice.new.self.items c.push_number.new.out.items c.push_number-2.new.out.items
    c.push_number-3.new.out.items c.push.new.self.items
    one two three four c.in_ok-push.ensures.items
