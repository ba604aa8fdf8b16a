use Rattle.std.proofs.Common.{◌≡◌, ◌+◌, ◌*◌, ◌^◌, ◌-◌, ℕ, min, inl, inr, refl, ◌∙◌, subst, sym, arith}
use Rattle.std.proofs.lemmas.Bool.{cases_lt}
use Rattle.std.specs.Prelude.{slice_index_or}
use Rattle.geo_poly.proofs.TermLimits.{AreLimits-times}
use Rattle.geo_poly.proofs.term_limits.add_multiples.Goals as goal

pub loop-i-init : goal.loop-i-init
loop-i-init c = record { whole = refl; summed = λ j lt known. absurd (omega (arith, lt)); kept = λ j le. refl }

pub loop-i-preserved : goal.loop-i-preserved
loop-i-preserved c =
    let i = c.loop-i.i in
    let first = c.args.limits.now in
    let others = c.args.others.now in
    let new = c.add_at.new.numbers in
    let whole = c.loop-i.invariant.whole in
    record {
      whole = c.add_at.ensures.whole ∙ whole;
      summed = λ j lt known. elim (cases_lt j i) [
        | inl less ↦ (c.add_at.ensures.others j (λ same. omega (arith, same, less)) ∙ c.loop-i.invariant.summed j less known)
        | inr past ↦
            let same : j ≡ i = omega (arith, lt, past) in
            let here = c.add_at.ensures.place in
            let before = c.loop-i.invariant.kept i (omega arith) in
            subst (λ (k : ℕ). slice_index_or new k 0 ≡ min (slice_index_or first k 0 + min (slice_index_or others k 0 * c.args.times) (2 ^ 32 - 1)) (2 ^ 32 - 1)) (sym same)
            (omega (arith, here, before, c.saturating_mul.ensures))
      ];
      kept = λ j le. c.add_at.ensures.others j (λ same. omega (arith, same, le)) ∙ c.loop-i.invariant.kept j (omega (arith, le));
    }

pub returns-clause-limits : goal.returns-clause-limits
returns-clause-limits c = λ vars bound more h g.
    AreLimits-times vars bound more c.args.limits.now c.args.others.now c.loop-i.limits c.args.times c.loop-i.invariant.whole
    (λ i known. c.loop-i.invariant.summed i (omega (arith, known, h.whole, g.whole, c.loop-i-test.false, c.min-count.ensures)) known) h g
