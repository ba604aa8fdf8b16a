use Rattle.std.proofs.Common.{ℕ, arith}
use Rattle.std.proofs.lemmas.List.Sums.{sum_by_more}
use Rattle.mono_store.proofs.words.degree.Goals as goal

pub loop-limit-preserved : goal.loop-limit-preserved
loop-limit-preserved c =
    let more = sum_by_more (λ (x : ℕ). x) c.args.limits.now c.loop-limit.limit-index 0 (omega arith) in
    omega (arith, more, c.loop-limit.invariant, c.saturating_add-degree.ensures)
