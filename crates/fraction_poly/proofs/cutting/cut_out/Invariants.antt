use Rattle.fraction_poly.proofs.Cuts.{IsCut}
use Rattle.fraction_poly.proofs.cutting.cut_out.Given as goal

abbrev pub invariant-loop-k : goal.invariant-loop-k
invariant-loop-k l = IsCut l.terms l.fn.id l.order.items l.k l.places l.cut
