use Rattle.std.proofs.Common.{◌≡◌, ◌≤◌, ℕ, inl, inr, refl, ◌∙◌, subst, sym, arith}
use Rattle.std.proofs.lemmas.Bool.{cases_lt}
use Rattle.std.specs.Prelude.{slice_index_or}
use Rattle.geo_poly.proofs.TermLimits.{AreLimits-max}
use Rattle.geo_poly.proofs.term_limits.raise_all.Goals as goal

pub loop-i-init : goal.loop-i-init
loop-i-init c = record { whole = refl; seen = λ j lt known. absurd (omega (arith, lt)); kept = λ j. omega arith }

pub loop-i-preserved : goal.loop-i-preserved
loop-i-preserved c =
    let i = c.loop-i.i in
    let new = c.raise_at.new.numbers in
    record {
      whole = c.raise_at.ensures.whole ∙ c.loop-i.invariant.whole;
      seen = λ j lt known. elim (cases_lt j i) [
        | inl less ↦ (let before = c.loop-i.invariant.seen j less known in let after = c.raise_at.ensures.kept j in omega (arith, before, after))
        | inr past ↦
            let same : j ≡ i = omega (arith, lt, past) in
            subst (λ (k : ℕ). slice_index_or c.args.others.now k 0 ≤ slice_index_or new k 0) (sym same)
            c.raise_at.ensures.place
      ];
      kept = λ j. (let before = c.loop-i.invariant.kept j in let after = c.raise_at.ensures.kept j in omega (arith, before, after));
    }

pub returns-clause-limits : goal.returns-clause-limits
returns-clause-limits c = λ vars bound more h g.
    AreLimits-max vars bound more c.args.limits.now c.args.others.now c.loop-i.limits c.loop-i.invariant.whole
    (λ i known. c.loop-i.invariant.seen i (omega (arith, known, h.whole, g.whole, c.loop-i-test.false, c.min-count.ensures)) known) c.loop-i.invariant.kept h g
