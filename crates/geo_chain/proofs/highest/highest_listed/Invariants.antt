use Rattle.std.proofs.Common.{None, drop}
use Rattle.geo_chain.specs.Inner.Searches.{IsAsHigh, MakesPoint}
use Rattle.geo_chain.proofs.Searches.{GoesOn, InList}
use Rattle.geo_chain.proofs.highest.highest_listed.Given as goal

abbrev pub invariant-loop-v : goal.invariant-loop-v
invariant-loop-v l =
    GoesOn IsAsHigh (InList (MakesPoint l.steps) l.variables) (InList (MakesPoint l.steps) (drop l.v-index l.variables))
    None l.highest
