use Rattle.std.proofs.Common.{drop, map}
use Rattle.geo_library.specs.Inner.Listing.{asked_text}
use Rattle.geo_library.proofs.ListedTexts.{AreListedSoFar}
use Rattle.geo_library.proofs.listing.missing_condition.Given as goal

abbrev pub invariant-loop-asked : goal.invariant-loop-asked
invariant-loop-asked l = AreListedSoFar (map (λ i. i.text) l.listed) (asked_text l.printer.names l.printer.terms.now) l.conditions (drop l.asked-index l.conditions)
