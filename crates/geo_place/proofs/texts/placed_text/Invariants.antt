use Rattle.std.proofs.Common.{◌≡◌, ◌++◌, drop}
use Rattle.std.specs.List.{flat_map}
use Rattle.geo_place.specs.Placing.{at_text}
use Rattle.geo_place.proofs.texts.placed_text.Given as goal

abbrev pub invariant-loop-at : goal.invariant-loop-at
invariant-loop-at l = l.bytes.items ++ flat_map at_text (drop l.at-index l.placed.points) ≡ flat_map at_text l.placed.points
