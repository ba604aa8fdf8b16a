use Rattle.std.proofs.Common.{◌≡◌, ◌++◌, drop}
use Rattle.mono_store.specs.Words.{digits_of, word_count}
use Rattle.mono_store.proofs.words.digits_below.Given as goal

abbrev pub invariant-loop-limit : goal.invariant-loop-limit
invariant-loop-limit l = record {
  unit : l.unit ≡ word_count (drop l.limit-index l.limits);
  whole : l.digits.items ++ digits_of (drop l.limit-index l.limits) ≡ digits_of l.limits;
}
