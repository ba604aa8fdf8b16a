use Rattle.std.proofs.Common.{◌≡◌, ◌+◌, ◌-◌, ◌≤◌, ◌++◌, drop, length, map, take}
use Rattle.std.specs.Ordering.{nat_cmp}
use Rattle.sparse_lists.specs.Coefficients.{sum_of}
use Rattle.term_runs.specs.Runs.{run_of}
use Rattle.term_runs.proofs.merging.merge.Given as goal

abbrev pub invariant-loop-i : goal.invariant-loop-i
invariant-loop-i g l = record {
  left : l.i ≤ length l.left;
  right : length l.left + l.j ≤ length l.fn.room;
  few : l.k ≤ l.i + l.j;
  unread : drop (length l.left + l.j) l.room ≡ drop (length l.left + l.j) l.fn.room;
  sum : map g.T.Term.pair (take l.k l.room)
      ++ run_of (drop l.i (map g.T.Term.pair l.left) ++ drop l.j (map g.T.Term.pair (drop (length l.left) l.fn.room)))
      ≡ sum_of nat_cmp (map g.T.Term.pair l.left) (map g.T.Term.pair (drop (length l.left) l.fn.room));
}

abbrev pub decreases-loop-i : goal.decreases-loop-i
decreases-loop-i g l = (l.gap - l.i) + (l.count - l.j)
