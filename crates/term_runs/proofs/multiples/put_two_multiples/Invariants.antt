use Rattle.std.proofs.Common.{◌≡◌, ◌+◌, ◌-◌, ◌≤◌, ◌++◌, drop, length, map, take}
use Rattle.sparse_lists.specs.Coefficients.{scaled}
use Rattle.term_runs.specs.Runs.{run_of}
use Rattle.term_runs.proofs.multiples.put_two_multiples.Given as goal

abbrev pub invariant-loop-i : goal.invariant-loop-i
invariant-loop-i g l = record {
  left : l.i ≤ length l.list;
  right : l.j ≤ length l.list;
  few : l.k ≤ l.i + l.j;
  sum : map g.T.Term.pair (take l.k l.room)
      ++ run_of (drop l.i (scaled (g.T.Term.pair l.first).0 (g.T.Term.pair l.first).1 (map g.T.Term.pair l.list))
      ++ drop l.j (scaled (g.T.Term.pair l.second).0 (g.T.Term.pair l.second).1 (map g.T.Term.pair l.list)))
      ≡ run_of (scaled (g.T.Term.pair l.first).0 (g.T.Term.pair l.first).1 (map g.T.Term.pair l.list)
      ++ scaled (g.T.Term.pair l.second).0 (g.T.Term.pair l.second).1 (map g.T.Term.pair l.list));
}

abbrev pub decreases-loop-i : goal.decreases-loop-i
decreases-loop-i g l = (l.count - l.i) + (l.count - l.j)
