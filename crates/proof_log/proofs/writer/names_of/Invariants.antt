use Rattle.std.proofs.Common.{◌≡◌, map, take}
use Rattle.proof_log.specs.Inner.Names.{starred}
use Rattle.proof_log.proofs.writer.names_of.Given as goal

abbrev pub invariant-loop-v : goal.invariant-loop-v
invariant-loop-v l = l.names.items ≡ map starred (take l.v-index l.p.vars.now)
