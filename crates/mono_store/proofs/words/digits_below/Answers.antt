use Rattle.std.proofs.Common.{◌≡◌, ℕ, ◌+◌, ◌/◌, ◌<◌, drop, length, refl, ap, ◌∙◌, arith}
use Rattle.std.specs.Prelude.{slice_index_or}
use Rattle.mono_store.specs.Words.{word_count}
use Rattle.mono_store.proofs.DigitLists.{digits_of-next, word_count-divided}
use Rattle.mono_store.proofs.words.digits_below.Goals as goal

pub loop-limit-preserved : goal.loop-limit-preserved
loop-limit-preserved c =
    let limits = c.args.limits.now in
    let i = c.loop-limit.limit-index in
    let within : i < length limits = omega arith in
    let unit : c.loop-limit.unit / (slice_index_or limits i 0 + 1) ≡ word_count (drop (i + 1) limits) =
    ap (λ (k : ℕ). k / (slice_index_or limits i 0 + 1)) c.loop-limit.invariant.unit ∙ word_count-divided limits i within in
    record {
      unit = unit;
      whole = digits_of-next limits i within c.loop-limit.digits.items c.push.new.self.items _ refl unit c.in_ok-push.ensures.items
          c.loop-limit.invariant.whole;
    }
