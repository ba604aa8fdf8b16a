use Rattle.std.proofs.Common.{arith, refl}
use Rattle.std.specs.Int.{w128}
use Rattle.std.proofs.lemmas.Bool.{false≢true}
use Rattle.std.proofs.lemmas.Int.{to_z-of_z}
use Rattle.geo_poly.specs.Shared.{told}
use Rattle.geo_poly.specs.Specialise.{specialised_weight}
use Rattle.geo_poly.proofs.LeadingVariables.{lacking_light, told_heavy}
use Rattle.geo_poly.proofs.poly.Poly.is_too_heavy.Goals as goal

pub returns-in-Some : goal.returns-in-Some
returns-in-Some c =
    let heavy = rw (to_z-of_z w128 c.args.value c.ranges.value, c.shared.ensures.terms) at c.is_too_heavy.ensures.heavy in
    let light = rw (to_z-of_z w128 c.args.value c.ranges.value, c.shared.ensures.terms) at c.is_too_heavy.ensures.light in
    told_heavy (specialised_weight c.args.v c.args.value c.args.self.now) c.is_too_heavy.result heavy light

pub returns-in-None : goal.returns-in-None
returns-in-None c =
    let light = lacking_light c.args.v c.args.value (told c.shared.result) c.args.self.now c.shared.ensures.terms c.shared.ensures.valid.polynomial c.in-None.ensures.none in
    (λ f. absurd (false≢true f), λ le. absurd (omega (arith, light, le)))

pub returns-then-is_number : goal.returns-then-is_number
returns-then-is_number c =
    let light = lacking_light c.args.v c.args.value c.args.self.now c.args.self.now refl c.is_number.ensures.valid (c.is_number.ensures.lacks c.if-is_number.true c.args.v) in
    (λ f. absurd (false≢true f), λ le. absurd (omega (arith, light, le)))
