use Rattle.std.proofs.Common.{length, map}
use Rattle.geo_library.proofs.ReadingNames.{AreReadSoFar}
use Rattle.geo_library.proofs.inputs.read_names.Given as goal

abbrev pub invariant-loop-next : goal.invariant-loop-next
invariant-loop-next l = AreReadSoFar l.rest (map (λ t. t.now) l.texts.items) l.left

abbrev pub decreases-loop-next : goal.decreases-loop-next
decreases-loop-next l = length l.left
