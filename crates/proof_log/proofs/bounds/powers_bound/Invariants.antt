use Rattle.std.proofs.Common.{◌≤◌, take}
use Rattle.std.specs.Prelude.{sum_by}
use Rattle.proof_log.specs.Inner.Names.{most_of_power}
use Rattle.proof_log.proofs.bounds.powers_bound.Given as goal

abbrev pub invariant-loop-v : goal.invariant-loop-v
invariant-loop-v l = sum_by most_of_power (take l.v-index l.vars) ≤ l.total
