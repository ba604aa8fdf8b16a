use Rattle.std.proofs.Common.{All, take}
use Rattle.fraction_poly.specs.TableRows.{HasPointsBelow}
use Rattle.geo_tests.proofs.move_places.are_below.Given as goal

abbrev pub invariant-loop-v : goal.invariant-loop-v
invariant-loop-v l = All (HasPointsBelow l.n) (take l.v-index l.variables)
