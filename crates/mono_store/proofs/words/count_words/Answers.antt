use Rattle.std.proofs.Common.{ℕ, ◌+◌, ◌*◌, ap, arith}
use Rattle.std.specs.Prelude.{slice_index_or}
use Rattle.mono_store.proofs.DigitLists.{word_count-next, word_count-take-le}
use Rattle.mono_store.proofs.words.count_words.Goals as goal

pub returns-in-None-clause-none : goal.returns-in-None-clause-none
returns-in-None-clause-none c =
    let limits = c.args.limits.now in
    let i = c.loop-limit.limit-index in
    let so_far = ap (λ (k : ℕ). k * (slice_index_or limits i 0 + 1)) c.loop-limit.invariant.count in
    omega (arith, c.in-None.ensures, so_far, word_count-next limits i (omega arith), word_count-take-le limits (i + 1))

pub loop-limit-preserved : goal.loop-limit-preserved
loop-limit-preserved c =
    let limits = c.args.limits.now in
    let i = c.loop-limit.limit-index in
    let so_far = ap (λ (k : ℕ). k * (slice_index_or limits i 0 + 1)) c.loop-limit.invariant.count in
    record { count = omega (arith, c.in-Some.ensures, so_far, word_count-next limits i (omega arith)) }
