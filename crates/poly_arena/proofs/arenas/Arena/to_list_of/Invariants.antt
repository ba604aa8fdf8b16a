use Rattle.std.proofs.Common.{◌≡◌, ◌+◌, ◌≤◌, length}
use Rattle.std.specs.Vec.{vec_capacity, vec_len}
use Rattle.poly_arena.specs.Nodes.{places}
use Rattle.poly_arena.proofs.Updating.{ReadsBy}
use Rattle.poly_arena.proofs.arenas.Arena.to_list_of.Given as goal

abbrev pub invariant-loop-place : goal.invariant-loop-place
invariant-loop-place g l = record {
  nodes : l.self-inside.nodes.items ≡ l.initial.self-inside.nodes.items;
  callable : goal.F-IsAlwaysCallable g l.form;
  state : ReadsBy (goal.F-post g l.form) l.self-inside.nodes.items l.initial.place l.place l.list.items;
  room : vec_len l.list + length (places l.self-inside.nodes.items l.place) ≤ vec_capacity l.list;
}

abbrev pub decreases-loop-place : goal.decreases-loop-place
decreases-loop-place g l = length (places l.self-inside.nodes.items l.place)
