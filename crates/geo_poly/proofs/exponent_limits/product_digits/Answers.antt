use Rattle.std.proofs.Common.{List, ℕ, ◌+◌, ◌*◌, sym, subst, arith}
use Rattle.geo_poly.specs.declared.variables.Var.{Var}
use Rattle.geo_poly.specs.Inner.Keyed.{greatest_exponent}
use Rattle.geo_poly.specs.Inner.Limits.{AreLimits}
use Rattle.geo_poly.specs.Shared.{told}
use Rattle.geo_poly.proofs.ExponentLimits.{AreLimits-less}
use Rattle.geo_poly.proofs.exponent_limits.product_digits.Goals as goal

pub returns : goal.returns
returns c =
    let vars = c.args.vars.now in
    let p = told c.args.p.now in
    let q = told c.args.q.now in
    let bound = λ (v : Var). greatest_exponent v p + greatest_exponent v q in
    let first = c.in_ok-add_polynomial.ensures (λ v. 0) c.in_ok-limits.ensures in
    let both = c.in_ok-add_polynomial-2.ensures (λ v. 0 + greatest_exponent v p * 1) first in
    c.digits_for.ensures bound
    (subst (λ (limits : List ℕ). AreLimits vars bound limits) (sym c.deref.ensures.value) (AreLimits-less vars _ bound _ (λ v. omega arith) both))
