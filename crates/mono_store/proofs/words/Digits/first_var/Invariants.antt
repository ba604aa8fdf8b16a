use Rattle.std.proofs.Common.{◌-◌, ◌<◌, length}
use Rattle.mono_store.specs.Words.{count_from}
use Rattle.mono_store.proofs.words.Digits.first_var.Given as goal

abbrev pub invariant-loop-var : goal.invariant-loop-var
invariant-loop-var l = l.word < count_from l.self l.var

abbrev pub decreases-loop-var : goal.decreases-loop-var
decreases-loop-var l = length l.self - l.var
