use Rattle.std.proofs.Common.{None, drop}
use Rattle.geo_poly.specs.Shared.{told}
use Rattle.geo_chain.specs.Inner.Searches.{IsAsHigh, MakesPoint}
use Rattle.geo_chain.proofs.Searches.{GoesOn, InTerms}
use Rattle.geo_chain.proofs.highest.highest_of_terms.Given as goal

abbrev pub invariant-loop-id : goal.invariant-loop-id
invariant-loop-id l =
    GoesOn IsAsHigh (InTerms (MakesPoint l.steps) (told l.p)) (InTerms (MakesPoint l.steps) (drop l.id-index (told l.p)))
    None l.highest
