use Rattle.std.proofs.Common.{◌-◌, length}
use Rattle.poly_arena.proofs.Scaling.{Scales}
use Rattle.poly_arena.proofs.nodes.scale_chain.Given as goal

abbrev pub invariant-loop-place : goal.invariant-loop-place
invariant-loop-place l = Scales l.key l.coef l.initial.nodes.items l.nodes.items l.initial.place l.place l.count

abbrev pub decreases-loop-place : goal.decreases-loop-place
decreases-loop-place l = length l.initial.nodes.items - l.count
