use Rattle.std.proofs.Common.{drop}
use Rattle.geo_library.proofs.KnownVariables.{AreKnownSoFar}
use Rattle.geo_library.proofs.figures.known_variables.Given as goal

abbrev pub invariant-loop-item : goal.invariant-loop-item
invariant-loop-item l = AreKnownSoFar l.steps.nodes l.items (drop l.item-index l.items) l.vars.items
