use Rattle.std.proofs.Common.{◌≡◌}
use Rattle.mono_store.specs.Words.{count_from}
use Rattle.geo_poly.proofs.word_division.count_above.Given as goal

abbrev pub invariant-loop-place : goal.invariant-loop-place
invariant-loop-place l = l.above ≡ count_from l.digits l.place
