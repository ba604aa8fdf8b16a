use Rattle.std.proofs.Common.{List, ℕ, sym, subst, arith, ◌∙◌}
use Rattle.geo_poly.specs.Inner.Limits.{AreGreatest}
use Rattle.geo_poly.specs.Shared.{told}
use Rattle.geo_poly.proofs.DigitLimits.{AreGreatest-limits}
use Rattle.geo_poly.proofs.exponent_limits.set_bounds.Goals as goal

pub returns-clause-greatest : goal.returns-clause-greatest
returns-clause-greatest c =
    let p = c.args.p.now in
    subst (λ (ns : List ℕ). AreGreatest p.vars.now ns (told p)) (sym (c.in_ok-numbers.ensures ∙ c.digits-digits.ensures))
    (AreGreatest-limits p.vars.now c.requires.rising p.monos.now (omega arith) p.list.now c.requires.indices)
