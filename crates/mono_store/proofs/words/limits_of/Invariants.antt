use Rattle.std.proofs.Common.{◌≡◌, take}
use Rattle.mono_store.specs.Words.{digit_limits}
use Rattle.mono_store.proofs.words.limits_of.Given as goal

abbrev pub invariant-loop-digit : goal.invariant-loop-digit
invariant-loop-digit l = l.limits.items ≡ digit_limits (take l.digit-index l.digits)
