use Rattle.std.proofs.Common.{map, take}
use Rattle.geo_library.specs.Inner.Naming.{AreNumbersByText}
use Rattle.geo_library.proofs.name_numbers.numbers_of_texts.Given as goal

abbrev pub invariant-loop-n : goal.invariant-loop-n
invariant-loop-n l = AreNumbersByText (take l.n (map (λ t. t.now) l.texts)) l.numbers
