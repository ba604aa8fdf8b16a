use Rattle.geo_poly.specs.Shared.{IsIndexOf, told_powers}
use Rattle.geo_chain.specs.Inner.Searches.{IsFitting, IsNotAfter}
use Rattle.geo_chain.proofs.Searches.{GoesOn, InMonomial}
use Rattle.geo_chain.proofs.first.first_in.Given as goal

abbrev pub invariant-loop-power : goal.invariant-loop-power
invariant-loop-power l = record {
  index : IsIndexOf l.p l.rest;
  goes :
      GoesOn IsNotAfter (InMonomial (IsFitting l.sought) (told_powers l.p l.fn.id))
      (InMonomial (IsFitting l.sought) (told_powers l.p l.rest)) l.fn.before l.first;
}

abbrev pub decreases-loop-power : goal.decreases-loop-power
decreases-loop-power l = l.rest.0
