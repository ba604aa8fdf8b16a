use Rattle.std.proofs.Common.{map}
use Rattle.geo_program.specs.Names.{names_of}
use Rattle.geo_library.specs.Renamings.{given_names}
use Rattle.geo_library.proofs.NamesGiven.{AreNumbersSoFar, left_at}
use Rattle.geo_library.proofs.renaming.numbers_of.Given as goal

abbrev pub invariant-loop-k : goal.invariant-loop-k
invariant-loop-k l =
    AreNumbersSoFar l.kind l.citing (names_of l.kind (given_names l.cited (map (λ t. t.now) l.texts))) (left_at l.kind l.cited (map (λ t. t.now) l.texts) l.k) l.numbers.items
