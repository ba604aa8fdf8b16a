use Rattle.std.proofs.Common.{◌≡◌, of_z, unsigned_abs, ap, ◌∙◌}
use Rattle.std.specs.Int.{w128}
use Rattle.geo_sample.proofs.OneTerm.{abs_zero, vanishes_alike}
use Rattle.geo_sample.proofs.forms.term_vanishes.Goals as goal

pub returns-else-coefficient-eq0 : goal.returns-else-coefficient-eq0
returns-else-coefficient-eq0 c =
    let t = c.args.term.now in
    let some : unsigned_abs c.args.term.now.1 ≡ 0 → ⊥ = λ h. c.if-coefficient-eq0.false (ap (of_z w128) (c.coefficient.ensures ∙ abs_zero t.1 h)) in
    vanishes_alike c.args.v t c.exponent.result c.is_valid.ensures.monomial some c.exponent.ensures
