use Rattle.std.proofs.Common.{rules, ℤ, ◌*ℤ◌, FitsSigned, sym, ◌∙◌, ap}
use Rattle.std.specs.Int.{w128}
use Rattle.std.proofs.lemmas.Int.{to_z-of_z}
use Rattle.geo_figure.proofs.BoundLaws.{quotient_number}
use Rattle.geo_figure.proofs.bounds.x_of.Goals as goal

pub returns : goal.returns
returns c =
    let at = c.args.at.now in
    let r = c.new.result in
    let narrow : FitsSigned w128 at.w = search rules in
    let small : FitsSigned w128 at.x = search rules in
    quotient_number r at.x at.w c.requires.w
    (ap (λ (z : ℤ). r.num *ℤ z) (sym (to_z-of_z w128 at.w narrow)) ∙ c.new.ensures ∙ ap (λ (z : ℤ). z *ℤ r.den) (to_z-of_z w128 at.x small))
