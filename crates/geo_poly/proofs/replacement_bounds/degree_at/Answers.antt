use Rattle.std.proofs.Common.{◌≡◌, ℕ, ◌+◌, ◌-◌, ◌^◌, min, sym, subst}
use Rattle.geo_poly.specs.declared.variables.Var.{Var}
use Rattle.geo_poly.specs.Monomials.{Powers, degree_of}
use Rattle.geo_poly.specs.Replace.{denominators, degree_rows, others}
use Rattle.geo_poly.specs.Shared.{told_powers}
use Rattle.geo_poly.proofs.Capped.{degree_some, degree_none, missing_some, missing_none}
use Rattle.geo_poly.proofs.replacement_bounds.degree_at.Goals as goal
use Rattle.geo_poly.proofs.replacement_bounds.degree_at.Goals.{in-Some-find_row, in-None}

pub loop-first-preserved : goal.loop-first-preserved
loop-first-preserved c =
    let rows = c.args.rows.now in
    let m = told_powers c.args.p.now c.args.id in
    let first : Var × ℕ = (c.in-Some.first.var, c.in-Some.first.exponent) in
    let rest = told_powers c.args.p.now c.in-Some.first.rest in
    let d = c.loop-first.degree in
    let x = min (degree_rows rows m (degree_of (others rows m))) (2 ^ 128 - 1) in
    let lacking = c.args.top - denominators rows m in
    let so_far = subst (λ (left : Powers). min (degree_rows rows left (d + degree_of (others rows left))) (2 ^ 128 - 1) ≡ x) c.in-Some.ensures.power c.loop-first.invariant.so_far in
    let missing = subst (λ (left : Powers). c.loop-first.missing ≡ denominators rows left + lacking) c.in-Some.ensures.power c.loop-first.invariant.missing-is in
    elim c.match-find_row.branch [
      | in-Some-find_row w ↦ record {
        index = c.in-Some.ensures.index;
        so_far = rw (w.degree-is, w.saturating_add-degree.ensures, w.saturating_mul.ensures) (degree_some rows first rest w.in-Some-find_row.row.now d x (sym w.in-Some-find_row.ensures) so_far);
        missing-is = rw w.missing-is (missing_some rows first rest w.in-Some-find_row.row.now c.loop-first.missing lacking (sym w.in-Some-find_row.ensures) missing);
      }
      | in-None w ↦ record {
        index = c.in-Some.ensures.index;
        so_far = rw (w.degree-is, w.saturating_add-degree-in-None.ensures) (degree_none rows first rest d x (sym w.in-None.ensures) so_far);
        missing-is = rw w.missing-is (missing_none rows first rest c.loop-first.missing lacking (sym w.in-None.ensures) missing);
      }
    ]
