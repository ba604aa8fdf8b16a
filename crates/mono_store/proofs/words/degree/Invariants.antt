use Rattle.std.proofs.Common.{◌≡◌, ◌-◌, ◌^◌, min, take}
use Rattle.std.specs.Prelude.{sum}
use Rattle.mono_store.proofs.words.degree.Given as goal

abbrev pub invariant-loop-limit : goal.invariant-loop-limit
invariant-loop-limit l = l.degree ≡ min (sum (take l.limit-index l.limits)) (2 ^ 32 - 1)
