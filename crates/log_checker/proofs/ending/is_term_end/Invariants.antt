use Rattle.geo_poly.specs.PolynomialVariables.{IsPlain}
use Rattle.geo_poly.specs.Polynomials.{term_at}
use Rattle.log_checker.proofs.KeysInTurn.{KeysBelow}
use Rattle.log_checker.proofs.ending.is_term_end.Given as goal

abbrev pub invariant-loop-j : goal.invariant-loop-j
invariant-loop-j l = KeysBelow IsPlain l.j (term_at l.p l.i).0
