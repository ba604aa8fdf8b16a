use Rattle.std.proofs.Common.{◌≡◌, take}
use Rattle.geo_logs.specs.Samples.{coordinates_from}
use Rattle.log_checker.proofs.sampling.coordinates.Given as goal

abbrev pub invariant-loop-k : goal.invariant-loop-k
invariant-loop-k l = l.variables.items ≡ coordinates_from 0 (take l.k l.steps.steps)
