use Rattle.geo_poly.specs.Shared.{IsIndexOf, told_powers}
use Rattle.geo_chain.specs.Inner.Searches.{IsAsHigh, MakesPoint}
use Rattle.geo_chain.proofs.Searches.{GoesOn, InMonomial}
use Rattle.geo_chain.proofs.highest.highest_in.Given as goal

abbrev pub invariant-loop-first : goal.invariant-loop-first
invariant-loop-first l = record {
  index : IsIndexOf l.p l.rest;
  goes :
      GoesOn IsAsHigh (InMonomial (MakesPoint l.steps) (told_powers l.p l.fn.id))
      (InMonomial (MakesPoint l.steps) (told_powers l.p l.rest)) l.fn.before l.highest;
}

abbrev pub decreases-loop-first : goal.decreases-loop-first
decreases-loop-first l = l.rest.0
