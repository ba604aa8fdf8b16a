use Rattle.std.proofs.Common.{◌≡◌, ltb, map, take}
use Rattle.mono_store.specs.declared.words.Digit.{Digit}
use Rattle.mono_store.proofs.words.have_room.Given as goal

abbrev pub invariant-loop-digit : goal.invariant-loop-digit
invariant-loop-digit l = l.known.items ≡ map (λ (d : Digit). ltb 0 d.limit) (take l.digit-index l.digits)
