use Rattle.std.proofs.Common.{List, ℕ, ◌+◌, ◌*◌, sym, subst, ◌∙◌, arith}
use Rattle.std.proofs.lemmas.Option.{get_or_from_slice_get, slice_get_within}
use Rattle.geo_poly.specs.declared.roles.Role.{Role}
use Rattle.geo_poly.specs.Inner.Keyed.{greatest_exponent}
use Rattle.geo_poly.specs.Inner.Limits.{AreLimits}
use Rattle.geo_poly.specs.Inner.Roles.{IsRole}
use Rattle.geo_poly.proofs.ExponentLimits.{AreLimits-at, AreLimits-less, AreLimits-none, exponent_of}
use Rattle.geo_poly.proofs.TermLimits.{AreLimits-kept, AreLimits-replaced, AreLimitsOfRows-count, row_at}
use Rattle.geo_poly.proofs.term_limits.add_power.Goals as goal

pub limits_at-requires : goal.limits_at-requires
limits_at-requires c =
    let role = subst (λ (r : Role). IsRole c.args.rows.now c.args.vars.now c.args.v r) c.in-Replaced.is c.requires.role in
    omega (arith, AreLimitsOfRows-count c.args.vars.now c.args.rows.now c.args.nums.now c.requires.nums, role.0)

pub returns-in-Replaced-clause-limits : goal.returns-in-Replaced-clause-limits
returns-in-Replaced-clause-limits c = λ bound h.
    let vars = c.args.vars.now in
    let rows = c.args.rows.now in
    let nums = c.args.nums.now in
    let i = c.in-Replaced.i in
    let num = c.limits_at.result.now in
    let role = subst (λ (r : Role). IsRole rows vars c.args.v r) c.in-Replaced.is c.requires.role in
    let found = row_at vars rows nums i num (slice_get_within nums i num c.limits_at.ensures)
    (sym (get_or_from_slice_get nums i num num c.limits_at.ensures)) c.requires.nums in
    AreLimits-replaced vars rows c.args.v c.args.times found.row bound c.add_times.new.limits (sym role.1 ∙ found.at)
    (c.add_times.ensures.limits vars bound _ h
    (subst (λ (ns : List ℕ). AreLimits vars (λ v. greatest_exponent v found.row.num.poly) ns) (sym c.deref.ensures.value) found.limits))

pub returns-in-Kept-clause-limits : goal.returns-in-Kept-clause-limits
returns-in-Kept-clause-limits c = λ bound h.
    let vars = c.args.vars.now in
    let v = c.args.v in
    let e = c.args.times in
    let role = subst (λ (r : Role). IsRole c.args.rows.now vars v r) c.in-Kept.is c.requires.role in
    AreLimits-kept vars c.args.rows.now v e bound c.add_at.new.numbers role.0
    (AreLimits-less vars (λ w. bound w + exponent_of w v e * 1) _ c.add_at.new.numbers (λ w. omega arith)
    (AreLimits-at vars c.requires.rising v e 1 bound c.args.limits.now c.add_at.new.numbers c.in-Kept.place e role.1.0 role.1.1
    (omega arith) c.add_at.ensures.place c.add_at.ensures.others c.add_at.ensures.whole h))

pub returns-in-Absent-clause-limits : goal.returns-in-Absent-clause-limits
returns-in-Absent-clause-limits c = λ bound h.
    let vars = c.args.vars.now in
    let v = c.args.v in
    let e = c.args.times in
    let role = subst (λ (r : Role). IsRole c.args.rows.now vars v r) c.in-Absent.is c.requires.role in
    AreLimits-kept vars c.args.rows.now v e bound c.args.limits.now role.0
    (AreLimits-less vars (λ w. bound w + exponent_of w v e * 1) _ c.args.limits.now (λ w. omega arith)
    (AreLimits-none vars c.requires.rising v e 1 bound c.args.limits.now role.1 h))
