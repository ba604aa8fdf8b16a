use Rattle.std.proofs.Common.{List, ℕ, ◌*◌, ap, ap₂, arith}
use Rattle.geo_poly.specs.declared.rows.Row.{Row}
use Rattle.geo_poly.specs.declared.variables.Var.{Var}
use Rattle.geo_poly.specs.Inner.Keyed.{greatest_exponent}
use Rattle.geo_poly.specs.Inner.Limits.{exponent_anywhere, exponents_of_rows}
use Rattle.geo_poly.specs.Monomials.{Powers, exponent}
use Rattle.geo_poly.specs.Polynomials.{Summands}
use Rattle.geo_poly.specs.Replace.{others}
use Rattle.geo_poly.specs.Shared.{told}
use Rattle.geo_poly.proofs.ExponentLimits.{AreLimits-less, replaced-le}
use Rattle.geo_poly.proofs.exponent_limits.replacement_limits.Goals as goal

pub returns : goal.returns
returns c =
    let vars = c.args.vars.now in
    let rows = c.args.rows.now in
    let den = c.args.den.now in
    let top = c.args.top in
    let own = c.in_ok-own.own.items in
    let bound = λ (v : Var). exponent_anywhere v rows den top (told c.args.p.now) in
    let first = c.add_others.ensures (λ v. 0) c.in_ok-limits.ensures in
    let second = c.in_ok-add_bounds.ensures _ first in
    let third = c.in_ok-add_rows.ensures _ second in
    AreLimits-less vars _ bound _
    (λ v. omega (
      arith,
      replaced-le v rows den top own (told c.args.p.now) c.in_ok-own.ensures,
      ap (λ (ps : Powers). exponent v (others rows ps) * 1) c.deref.ensures.value,
      ap₂ (λ (q : Summands) (k : ℕ). greatest_exponent v q * k) c.shared.ensures.terms c.max.ensures,
      ap₂ (λ (rs : List Row) (ps : Powers). exponents_of_rows v rs ps) c.rows.ensures c.deref-2.ensures.value,
    ))
    third
