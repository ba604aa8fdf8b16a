use Rattle.std.proofs.Common.{None, drop}
use Rattle.geo_poly.specs.Shared.{told}
use Rattle.geo_chain.specs.Inner.Searches.{IsFitting, IsNotAfter}
use Rattle.geo_chain.proofs.Searches.{GoesOn, InTerms}
use Rattle.geo_chain.proofs.first.first_of_terms.Given as goal

abbrev pub invariant-loop-id : goal.invariant-loop-id
invariant-loop-id l =
    GoesOn IsNotAfter (InTerms (IsFitting l.sought) (told l.p))
    (InTerms (IsFitting l.sought) (drop l.id-index (told l.p))) None l.first
