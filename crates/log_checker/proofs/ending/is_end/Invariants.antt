use Rattle.sparse_lists.specs.SparseLists.{AllKeys}
use Rattle.geo_poly.specs.PolynomialVariables.{IsPlain}
use Rattle.log_checker.proofs.KeysInTurn.{TermsBelow}
use Rattle.log_checker.proofs.ending.is_end.Given as goal

abbrev pub invariant-loop-i : goal.invariant-loop-i
invariant-loop-i l = TermsBelow (λ m. AllKeys IsPlain m) l.i l.p
