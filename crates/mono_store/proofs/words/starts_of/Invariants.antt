use Rattle.std.proofs.Common.{◌≤◌, length}
use Rattle.mono_store.proofs.words.starts_of.Given as goal

abbrev pub invariant-loop-zeros : goal.invariant-loop-zeros
invariant-loop-zeros l = l.place ≤ length l.digits
