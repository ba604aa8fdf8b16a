use Rattle.fraction_poly.proofs.ReachedParts.{IsReaching, height}
use Rattle.fraction_poly.proofs.reaching.reached.Given as goal

abbrev pub invariant-loop-index : goal.invariant-loop-index
invariant-loop-index l = IsReaching l.terms l.fn.id l.pending l.order.items

abbrev pub decreases-loop-index : goal.decreases-loop-index
decreases-loop-index l = height l.pending.keys
