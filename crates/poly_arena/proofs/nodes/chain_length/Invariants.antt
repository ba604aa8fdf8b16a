use Rattle.std.proofs.Common.{◌≡◌, ◌+◌, length}
use Rattle.poly_arena.specs.Nodes.{IsPath, places}
use Rattle.poly_arena.proofs.nodes.chain_length.Given as goal

abbrev pub invariant-loop-place : goal.invariant-loop-place
invariant-loop-place l = record {
  path : IsPath l.nodes l.place (places l.nodes l.place);
  whole : l.count + length (places l.nodes l.place) ≡ length (places l.nodes l.initial.place);
}

abbrev pub decreases-loop-place : goal.decreases-loop-place
decreases-loop-place l = length (places l.nodes l.place)
