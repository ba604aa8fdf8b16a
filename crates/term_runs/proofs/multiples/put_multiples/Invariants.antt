use Rattle.std.proofs.Common.{◌≡◌, ◌+◌, ◌-◌, ◌≤◌, ◌++◌, drop, length, map, take}
use Rattle.sparse_lists.specs.Coefficients.{scaled}
use Rattle.term_runs.proofs.multiples.put_multiples.Given as goal

abbrev pub invariant-loop-i : goal.invariant-loop-i
invariant-loop-i g l = record {
  place : l.k + l.from ≡ l.at + l.i;
  within : l.i ≤ length l.list;
  begun : l.from ≤ l.i;
  terms : map g.T.Term.pair (take l.k l.room) ++ drop l.i (scaled (g.T.Term.pair l.term).0 (g.T.Term.pair l.term).1 (map g.T.Term.pair l.list))
      ≡ map g.T.Term.pair (take l.at l.fn.room) ++ drop l.from (scaled (g.T.Term.pair l.term).0 (g.T.Term.pair l.term).1 (map g.T.Term.pair l.list));
}

abbrev pub decreases-loop-i : goal.decreases-loop-i
decreases-loop-i g l = length l.list - l.i
