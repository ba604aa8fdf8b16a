use Rattle.std.proofs.Common.{◌≡◌, ltb, take}
use Rattle.std.specs.Prelude.{filter}
use Rattle.mono_store.specs.declared.words.Digit.{Digit}
use Rattle.mono_store.proofs.words.digits_with_room.Given as goal

abbrev pub invariant-loop-digit : goal.invariant-loop-digit
invariant-loop-digit l = l.kept.items ≡ filter (λ (d : Digit). ltb 0 d.limit) (take l.digit-index l.digits)
