use Rattle.std.proofs.Common.{◌≡◌, ℕ, ◌-◌, ◌^◌, unsigned_abs, sym, subst, arith}
use Rattle.geo_poly.specs.declared.variables.Var.{Var}
use Rattle.geo_poly.specs.Monomials.{Powers}
use Rattle.geo_poly.specs.Replace.{denominators, weight_rows}
use Rattle.geo_poly.specs.Shared.{told_powers}
use Rattle.geo_poly.proofs.Capped.{WeightProgress, WeightProgress-none, WeightProgress-some, weight_end}
use Rattle.geo_poly.proofs.replacement_bounds.weight_at.Goals as goal
use Rattle.geo_poly.proofs.replacement_bounds.weight_at.Goals.{in-Some-find_row, in_default-find_row}

pub loop-first-preserved : goal.loop-first-preserved
loop-first-preserved c =
    let rows = c.args.rows.now in
    let m = told_powers c.args.p.now c.args.t.0 in
    let first : Var × ℕ = (c.in-Some.first.var, c.in-Some.first.exponent) in
    let rest = told_powers c.args.p.now c.in-Some.first.rest in
    let progress = subst (λ (left : Powers). WeightProgress rows c.args.top m c.args.t.1 left c.loop-first.weight c.loop-first.missing) c.in-Some.ensures.power c.loop-first.invariant.progress in
    elim c.match-find_row.branch [
      | in-Some-find_row w ↦ record {
        index = c.in-Some.ensures.index;
        progress = rw (w.weight-is, w.missing-is, w.saturating_mul-weight.ensures, w.saturating_pow.ensures)
            (WeightProgress-some rows c.args.top m c.args.t.1 first rest c.loop-first.weight c.loop-first.missing w.in-Some-find_row.row.now (sym w.in-Some-find_row.ensures) progress);
      }
      | in_default-find_row w ↦ record {
        index = c.in-Some.ensures.index;
        progress = rw (w.weight-is, w.missing-is) (WeightProgress-none rows c.args.top m c.args.t.1 first rest c.loop-first.weight c.loop-first.missing (sym w.in_default-find_row.ensures) progress);
      }
    ]

pub returns : goal.returns
returns c =
    let rows = c.args.rows.now in
    let m = told_powers c.args.p.now c.args.t.0 in
    let whole = subst (λ (left : Powers). WeightProgress rows c.args.top m c.args.t.1 left c.loop-first.weight c.loop-first.missing) c.in_default.ensures.none c.loop-first.invariant.progress in
    let missing : c.loop-first.missing ≡ c.args.top - denominators rows m = omega (arith, whole.missing-is) in
    rw (c.saturating_mul.ensures, c.saturating_pow-2.ensures, missing)
    (weight_end c.loop-first.weight (weight_rows rows m (unsigned_abs c.args.t.1)) (c.args.den.now.weight ^ (c.args.top - denominators rows m)) (2 ^ 128 - 1) whole.capped)
