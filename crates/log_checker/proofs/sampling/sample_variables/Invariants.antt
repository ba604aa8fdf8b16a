use Rattle.std.proofs.Common.{◌≡◌, ◌++◌}
use Rattle.geo_logs.specs.Samples.{coordinates_from, parameters_from}
use Rattle.log_checker.proofs.sampling.sample_variables.Given as goal

abbrev pub invariant-loop-t : goal.invariant-loop-t
invariant-loop-t l = l.variables.items ≡ coordinates_from 0 l.steps.steps ++ parameters_from 0 l.t
