use Rattle.std.proofs.Common.{drop}
use Rattle.geo_library.proofs.ListedTexts.{AreOthersSoFar}
use Rattle.geo_library.proofs.listing.is_listed.Given as goal

abbrev pub invariant-loop-item : goal.invariant-loop-item
invariant-loop-item l = AreOthersSoFar l.text l.listed (drop l.item-index l.listed)
