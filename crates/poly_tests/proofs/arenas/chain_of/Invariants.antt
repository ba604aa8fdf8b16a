use Rattle.std.proofs.Common.{◌≡◌, ◌+◌, ◌≤◌, Some, drop, length}
use Rattle.poly_arena.specs.Chains.{Updates}
use Rattle.poly_tests.proofs.arenas.chain_of.Given as goal

abbrev pub invariant-loop-i : goal.invariant-loop-i
invariant-loop-i l = record {
  left : l.i ≤ length l.pairs;
  spare : l.i + l.fn.arena.spare ≡ l.arena.spare + length l.pairs;
  room : l.i ≤ l.arena.spare;
  updates : Updates l.fn.arena l.arena l.chain (Some (drop l.i l.pairs));
  same : l.chain ≡ l.initial.chain;
}

abbrev pub decreases-loop-i : goal.decreases-loop-i
decreases-loop-i l = l.i
