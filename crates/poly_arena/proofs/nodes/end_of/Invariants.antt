use Rattle.std.proofs.Common.{◌-◌, length}
use Rattle.poly_arena.proofs.Releasing.{Ends}
use Rattle.poly_arena.proofs.nodes.end_of.Given as goal

abbrev pub invariant-loop-last : goal.invariant-loop-last
invariant-loop-last l = Ends l.nodes l.initial.last l.last l.count

abbrev pub decreases-loop-last : goal.decreases-loop-last
decreases-loop-last l = length l.nodes - l.count
