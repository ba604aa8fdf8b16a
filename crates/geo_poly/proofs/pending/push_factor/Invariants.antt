use Rattle.std.proofs.Common.{◌≡◌, ◌++◌, replicate}
use Rattle.geo_poly.proofs.pending.push_factor.Given as goal

abbrev pub invariant-loop-k : goal.invariant-loop-k
invariant-loop-k l = l.factors.items ≡ l.fn.factors.items ++ replicate l._k l.factor
