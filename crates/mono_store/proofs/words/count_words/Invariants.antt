use Rattle.std.proofs.Common.{◌≡◌, take}
use Rattle.mono_store.specs.Words.{word_count}
use Rattle.mono_store.proofs.words.count_words.Given as goal

abbrev pub invariant-loop-limit : goal.invariant-loop-limit
invariant-loop-limit l = record { count : l.count ≡ word_count (take l.limit-index l.limits) }
