use Rattle.std.proofs.Common.{List, ℕ, sym, ap, subst, ◌∙◌, arith}
use Rattle.geo_poly.specs.declared.rows.Row.{Row}
use Rattle.geo_poly.specs.declared.roles.Role.{Role}
use Rattle.geo_poly.specs.declared.term_limits.ExponentLimits.{ExponentLimits}
use Rattle.geo_poly.specs.Inner.Keyed.{greatest_exponent}
use Rattle.geo_poly.specs.Inner.Limits.{AreLimits, AreLimitsOfRows}
use Rattle.geo_poly.specs.Inner.Roles.{AreRoles}
use Rattle.geo_poly.proofs.ExponentLimits.{AreLimits-less}
use Rattle.geo_poly.proofs.TermLimits.{AreLimits-taken}
use Rattle.geo_poly.proofs.term_limits.limits_by_terms.Goals as goal

pub raise_by_terms-requires-clause-nums : goal.raise_by_terms-requires-clause-nums
raise_by_terms-requires-clause-nums c =
    let vars = c.args.vars.now in
    subst (λ (ns : List ExponentLimits). AreLimitsOfRows vars c.args.rows.now ns) (sym c.deref-3.ensures.value)
    (subst (λ (rs : List Row). AreLimitsOfRows vars rs c.in_ok-nums.nums.items) c.rows.ensures c.in_ok-nums.ensures)

pub raise_by_terms-requires-clause-roles : goal.raise_by_terms-requires-clause-roles
raise_by_terms-requires-clause-roles c =
    subst (λ (rs : List Role). AreRoles c.args.rows.now c.args.vars.now c.args.p.now.vars.now rs) (sym c.deref-4.ensures.value) c.in_ok-roles.ensures

pub returns : goal.returns
returns c =
    let vars = c.args.vars.now in
    let den = c.args.den.now in
    let of_den = AreLimits-less vars _ (λ v. greatest_exponent v den.poly) c.in_ok-of_den.of_den.items
    (λ v. omega (arith, ap (greatest_exponent v) c.shared.ensures.terms)) c.in_ok-of_den.ensures in
    let given = subst (λ (ns : List ℕ). AreLimits vars (λ v. greatest_exponent v den.poly) ns) (sym c.deref-2.ensures.value) of_den in
    let first = subst (λ (ns : List ℕ). AreLimits vars (λ v. greatest_exponent v den.poly) ns)
    (sym (c.deref_mut.ensures.value ∙ c.in_ok-limits.ensures.items ∙ c.deref.ensures.value)) of_den in
    AreLimits-taken vars _ _ c.raise_by_terms.new.limits _ (omega arith)
    (AreLimits-less vars _ _ c.raise_by_terms.new.limits (λ v. omega arith) (c.raise_by_terms.ensures.limits den _ given first))
