use Rattle.std.proofs.Common.{◌-◌, ◌*◌, ◌^◌, min, unsigned_abs, ap₂, refl, ◌∙◌}
use Rattle.std.specs.Int.{w128}
use Rattle.std.proofs.lemmas.Int.{to_z-of_z}
use Rattle.geo_poly.proofs.Capped.{cap_right}
use Rattle.geo_sample.proofs.single_terms.weight.Goals as goal

pub returns : goal.returns
returns c =
    let m = 2 ^ 128 - 1 in
    let number = rw (to_z-of_z w128 c.args.z c.ranges.z) at c.unsigned_abs.ensures.value in
    let size = rw (to_z-of_z w128 c.args.c c.ranges.c) at c.unsigned_abs-2.ensures.value in
    let power = c.saturating_pow-power.ensures ∙ ap₂ (λ b e. min (b ^ e) m) number refl in
    c.saturating_mul.ensures ∙ ap₂ (λ a b. min (a * b) m) size power ∙ cap_right (unsigned_abs c.args.c) (unsigned_abs c.args.z ^ c.args.e) m
