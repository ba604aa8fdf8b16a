use Rattle.std.proofs.Common.{◌≡◌, map, take}
use Rattle.proof_printer.specs.Inner.Names.{naming_in, starred}
use Rattle.proof_printer.proofs.namer.Namer.names_of.Given as goal

abbrev pub invariant-loop-v : goal.invariant-loop-v
invariant-loop-v l = l.names.items ≡ map (starred (naming_in l.self)) (take l.v-index l.p.vars.now)
