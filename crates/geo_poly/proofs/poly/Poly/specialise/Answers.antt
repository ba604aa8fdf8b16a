use Rattle.std.proofs.Common.{refl, arith}
use Rattle.std.specs.Int.{w128}
use Rattle.std.proofs.lemmas.Int.{to_z-of_z}
use Rattle.std.proofs.lemmas.Result.{err_from_is_err_and}
use Rattle.geo_poly.proofs.poly.Poly.specialise.Goals as goal

pub returns-then-is_too_heavy-clause-norm : goal.returns-then-is_too_heavy-clause-norm
returns-then-is_too_heavy-clause-norm c =
    let w = rw (to_z-of_z w128 c.args.value c.ranges.value, c.shared.ensures.terms) at c.is_too_heavy.ensures.heavy in
    (λ _. w c.if-is_too_heavy.true, λ _. refl)

pub returns-then-value-eq0-clause-norm : goal.returns-then-value-eq0-clause-norm
returns-then-value-eq0-clause-norm c =
    let w = rw (to_z-of_z w128 c.args.value c.ranges.value, c.shared.ensures.terms) at c.is_too_heavy.ensures.light in
    (λ e. absurd (cc), λ h. absurd (omega (arith, w c.if-is_too_heavy.false, h)))

pub returns-in_err-at_zero-clause-norm : goal.returns-in_err-at_zero-clause-norm
returns-in_err-at_zero-clause-norm c =
    let w = rw (to_z-of_z w128 c.args.value c.ranges.value, c.shared.ensures.terms) at c.is_too_heavy.ensures.light in
    let p = err_from_is_err_and c.from_residual.result c.from_residual.ensures.1 in
    rw (p.1, p.2) (λ e. absurd (cc), λ h. absurd (omega (arith, w c.if-is_too_heavy.false, h)))

pub returns-in_err-at_number-clause-norm : goal.returns-in_err-at_number-clause-norm
returns-in_err-at_number-clause-norm c =
    let w = rw (to_z-of_z w128 c.args.value c.ranges.value, c.shared.ensures.terms) at c.is_too_heavy.ensures.light in
    let p = err_from_is_err_and c.from_residual-in_err-at_number.result c.from_residual-in_err-at_number.ensures.1 in
    rw (p.1, p.2) (λ e. absurd (cc), λ h. absurd (omega (arith, w c.if-is_too_heavy.false, h)))
