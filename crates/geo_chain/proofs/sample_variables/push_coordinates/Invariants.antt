use Rattle.std.proofs.Common.{◌≡◌, ◌++◌, drop}
use Rattle.geo_logs.specs.Samples.{coordinates_from}
use Rattle.geo_chain.proofs.sample_variables.push_coordinates.Given as goal

-- what is there, and what is still to come, is the whole
abbrev pub invariant-loop-k : goal.invariant-loop-k
invariant-loop-k l = l.items.items ++ coordinates_from l.k
    (drop l.k l.steps.steps) ≡ l.initial.items.items ++ coordinates_from 0 l.steps.steps
