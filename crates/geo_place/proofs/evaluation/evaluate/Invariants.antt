use Rattle.geo_place.specs.Inner.{IsTaken}
use Rattle.geo_place.proofs.evaluation.evaluate.Given as goal

abbrev pub ghost-take_command : goal.ghost-take_command
ghost-take_command g a = g.run

abbrev pub invariant-loop-k : goal.invariant-loop-k
invariant-loop-k g l = IsTaken g.run l.k l.progress
