use Rattle.std.proofs.Common.{◌≡◌, length, take}
use Rattle.proof_log.proofs.kept_texts.leave_others.Given as goal

abbrev pub invariant-loop-heads : goal.invariant-loop-heads
invariant-loop-heads l = l.heads.items ≡ take (length l.heads.items) l.fn.heads.items

abbrev pub decreases-loop-heads : goal.decreases-loop-heads
decreases-loop-heads l = length l.heads.items
