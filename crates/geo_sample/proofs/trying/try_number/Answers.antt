use Rattle.std.proofs.Common.{◌≡◌, ◌<◌, ◌≤◌, ◌∷◌, [], inl, inr, length, sum_by, Err, List, ℕ, ℤ, sym, ap, subst, ◌∙◌, arith}
use Rattle.std.specs.Int.{w128}
use Rattle.std.proofs.lemmas.Int.{to_z-of_z}
use Rattle.std.proofs.lemmas.Result.{err_from_is_err_and}
use Rattle.geo_poly.specs.Polynomials.{Summands}
use Rattle.geo_sample.specs.declared.errors.SampleError.{SampleError}
use Rattle.geo_sample.specs.Tries.{Try, EndIn, charge_of, IsTooLarge}
use Rattle.geo_sample.proofs.TryEnds.{handed_on, one_spent, one_large, one_short, if_err}
use Rattle.geo_sample.proofs.trying.try_number.Goals as goal

pub returns-in_err-charge-clause-stopped : goal.returns-in_err-charge-clause-stopped
returns-in_err-charge-clause-stopped g c =
    let left = c.args.budget.now.left in
    let t : Try = record { variable = c.args.v; number = c.args.number; polys = c.args.polys.now.items } in
    let p = err_from_is_err_and c.from_residual.result c.from_residual.ensures.1 in
    let spent = c.in_err-charge.ensures.spent in
    let short = subst (λ (ps : List Summands). left < sum_by length ps) c.deref.ensures.value spent.1 in
    if_err _ c.from_residual.result c.in_err-charge.field-0.0 p.0 p.1 p.2
    (subst (λ (e : SampleError). EndIn e left (t ∷ []) left) (sym spent.0) (one_spent left t short))

pub returns-in_err-keeps-clause-stopped : goal.returns-in_err-keeps-clause-stopped
returns-in_err-keeps-clause-stopped g c =
    let left = c.args.budget.now.left in
    let t : Try = record { variable = c.args.v; number = c.args.number; polys = c.args.polys.now.items } in
    let p = err_from_is_err_and c.from_residual-in_err-keeps.result c.from_residual-in_err-keeps.ensures.1 in
    let affordable : charge_of (record { variable = c.args.v; number = c.args.number; polys = c.args.polys.now.items }) ≤ c.args.budget.now.left =
    subst (λ (ps : List Summands). sum_by length ps ≤ left) c.deref.ensures.value (subst (λ (n : ℕ). n ≤ left) c.in_ok-charge.ensures.charge c.in_ok-charge.ensures.paid) in
    if_err _ c.from_residual-in_err-keeps.result c.in_err-keeps.field-0.0 p.0 p.1 p.2
    (elim c.in_err-keeps.ensures.stopped [
      | inl no_memory ↦ subst (λ (e : SampleError). EndIn e left (t ∷ []) left) (sym no_memory) (one_short left t)
      | inr large ↦
          subst (λ (e : SampleError). EndIn e left (t ∷ []) left) (sym large.0)
          (one_large left t affordable (subst
          (λ (z : ℤ). IsTooLarge (record { variable = c.args.v; number = z; polys = c.args.polys.now.items }))
          (to_z-of_z w128 c.args.number c.ranges.number) large.1))
    ])

pub returns-in_err-keeps-clause-afforded : goal.returns-in_err-keeps-clause-afforded
returns-in_err-keeps-clause-afforded g c =
    let charge : c.in_ok-charge.charge ≡ sum_by length c.args.polys.now.items = c.in_ok-charge.ensures.charge ∙ ap (sum_by length) c.deref.ensures.value in
    omega (arith, charge, c.in_ok-charge.ensures.paid, c.in_err-keeps.ensures.ticks)

pub returns-in_err-keeps-clause-unworked : goal.returns-in_err-keeps-clause-unworked
returns-in_err-keeps-clause-unworked g c =
    λ e h n.
    c.in_err-keeps.ensures.unworked e (ap Err (handed_on c.from_residual-in_err-keeps.result c.in_err-keeps.field-0.0 e
    c.from_residual-in_err-keeps.ensures.1 h)) n

pub returns-clause-afforded : goal.returns-clause-afforded
returns-clause-afforded g c =
    let charge : c.in_ok-charge.charge ≡ sum_by length c.args.polys.now.items = c.in_ok-charge.ensures.charge ∙ ap (sum_by length) c.deref.ensures.value in
    omega (arith, charge, c.in_ok-charge.ensures.paid, c.in_ok-keeps.ensures.ticks)

pub returns-clause-counted : goal.returns-clause-counted
returns-clause-counted g c =
    let charge : c.in_ok-charge.charge ≡ sum_by length c.args.polys.now.items = c.in_ok-charge.ensures.charge ∙ ap (sum_by length) c.deref.ensures.value in
    omega (arith, charge, c.in_ok-charge.ensures.paid, c.in_ok-keeps.ensures.ticks)
