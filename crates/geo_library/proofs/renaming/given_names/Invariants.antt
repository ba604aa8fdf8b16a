use Rattle.std.proofs.Common.{◌≡◌, ◌++◌, drop, map}
use Rattle.geo_library.specs.Renamings.{given_names}
use Rattle.geo_library.proofs.renaming.given_names.Given as goal

abbrev pub invariant-loop-k : goal.invariant-loop-k
invariant-loop-k l = given_names l.cited (map (λ t. t.now) l.texts) ≡ l.names.items ++ given_names (drop l.k l.cited) (drop l.k (map (λ t. t.now) l.texts))
