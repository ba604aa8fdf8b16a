use Rattle.std.proofs.Common.{ℕ, ◌+◌, ◌*◌, ap, ◌∙◌, arith}
use Rattle.geo_poly.specs.Inner.Keyed.{greatest_exponent}
use Rattle.geo_poly.specs.Monomials.{exponent}
use Rattle.geo_poly.specs.Replace.{others}
use Rattle.geo_poly.specs.Shared.{told_powers}
use Rattle.geo_poly.proofs.ExponentLimits.{AreLimits-less, rows-plus}
use Rattle.geo_poly.proofs.TermLimits.{AreLimits-any}
use Rattle.geo_poly.proofs.term_limits.sum_up_term.Goals as goal

pub returns-clause-limits : goal.returns-clause-limits
returns-clause-limits c = λ den k h.
    let vars = c.args.vars.now in
    let rows = c.args.rows.now in
    let m = told_powers c.args.p.now c.args.id in
    let first = c.add_powers-lacking.ensures.limits (λ v. 0) (AreLimits-any vars c.clear.new.numbers (c.clear.ensures ∙ c.requires.whole)) in
    AreLimits-less vars _ _ c.add_times.new.limits
    (λ v. omega (
      arith,
      rows-plus v rows m (exponent v (others rows m)),
      rows-plus v rows m (0 + exponent v (others rows m)),
      ap (λ (n : ℕ). greatest_exponent v den.poly * n) c.add_powers-lacking.ensures.lacking,
    ))
    (c.add_times.ensures.limits vars _ _ first h)
