use Rattle.std.proofs.Common.{List, [], ◌∷◌, ℕ, ◌+◌, ◌*◌, take, ap, sym, subst, arith}
use Rattle.std.proofs.lemmas.List.{take_all}
use Rattle.geo_poly.specs.declared.variables.Var.{Var}
use Rattle.geo_poly.specs.Inner.Limits.{AreLimits}
use Rattle.geo_poly.specs.Monomials.{Powers, exponent}
use Rattle.geo_poly.specs.Replace.{others}
use Rattle.geo_poly.proofs.ExponentLimits.{AreLimits-less, others-more, power_at}
use Rattle.geo_poly.proofs.exponent_limits.add_others.Goals as goal
use Rattle.geo_poly.proofs.exponent_limits.add_others.Goals.{in-Some, in-None}

pub loop-i-preserved : goal.loop-i-preserved
loop-i-preserved c = λ bound h.
    let vars = c.args.vars.now in
    let rows = c.args.rows.now in
    let ps = c.args.exponents.now in
    let i = c.loop-i.i in
    let so_far = λ (v : Var). bound v + exponent v (others rows (take i ps)) * 1 in
    let before = c.loop-i.invariant bound h in
    elim c.match-find_row.branch [
      | in-Some w ↦
          AreLimits-less vars so_far _ _ (λ v. omega (arith, others-more v rows ps i _ c.loop-i-test.true w.in-Some.ensures))
          (subst (λ (limits : List ℕ). AreLimits vars so_far limits) (sym (ap (λ s. s.items) w.limits-is)) before)
      | in-None w ↦
          AreLimits-less vars _ _ _ (λ v. omega (arith, others-more v rows ps i _ c.loop-i-test.true w.in-None.ensures))
          (subst (λ (limits : List ℕ). AreLimits vars (λ v. so_far v + exponent v (power_at ps i ∷ []) * 1) limits)
          (sym (ap (λ s. s.items) w.limits-is)) (w.add_exponent-guess.ensures so_far before))
    ]

pub returns : goal.returns
returns c = λ bound h.
    let all = take_all c.loop-i.i c.args.exponents.now (omega arith) in
    AreLimits-less c.args.vars.now _ _ _ (λ v. omega (arith, ap (λ (ps : Powers). exponent v (others c.args.rows.now ps) * 1) all))
    (c.loop-i.invariant bound h)
