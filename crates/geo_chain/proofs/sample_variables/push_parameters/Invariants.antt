use Rattle.std.proofs.Common.{◌≡◌, ◌++◌, ◌-◌}
use Rattle.geo_logs.specs.Samples.{parameters_from}
use Rattle.geo_chain.proofs.sample_variables.push_parameters.Given as goal

-- what is there, and what is still to come, is the whole
abbrev pub invariant-loop-k : goal.invariant-loop-k
invariant-loop-k l = l.items.items ++ parameters_from l.k (l.count - l.k) ≡ l.initial.items.items ++ parameters_from 0 l.count
