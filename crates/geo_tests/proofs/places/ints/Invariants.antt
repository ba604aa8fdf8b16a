use Rattle.std.specs.Prelude.{◌<◌, ◌^◌, All, unsigned_abs}
use Rattle.geo_tests.proofs.places.ints.Given as goal

abbrev pub invariant-loop-value : goal.invariant-loop-value
invariant-loop-value l = record { short : All (λ z. unsigned_abs z < 2 ^ 127) l.items.items }
