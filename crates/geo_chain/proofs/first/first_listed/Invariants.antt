use Rattle.geo_chain.proofs.FirstVariables.{NoneBefore}
use Rattle.geo_chain.proofs.first.first_listed.Given as goal

abbrev pub invariant-loop-v : goal.invariant-loop-v
invariant-loop-v l = NoneBefore l.sought l.variables l.v-index
