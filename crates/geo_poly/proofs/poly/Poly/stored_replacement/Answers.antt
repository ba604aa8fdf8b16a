use Rattle.std.proofs.Common.{ℕ, sym, subst}
use Rattle.geo_poly.specs.Polynomials.{IsPolynomial, polynomial_of}
use Rattle.geo_poly.specs.Replace.{replaced_terms}
use Rattle.geo_poly.proofs.ReplaceTerms.{IsPolynomial-replaced}
use Rattle.geo_poly.proofs.poly.Poly.stored_replacement.Goals as goal

pub from_chain-requires-clause-polynomial : goal.from_chain-requires-clause-polynomial
from_chain-requires-clause-polynomial g c =
    let rows = c.args.rows.now in
    let den = c.args.den.now in
    let whole = subst (λ (n : ℕ). IsPolynomial (polynomial_of (replaced_terms rows den.poly n c.args.self.now))) c.requires.top
    (IsPolynomial-replaced rows den c.args.top c.args.self.now c.requires.can) in
    subst IsPolynomial (sym c.in_ok-chain.ensures.chain.terms) whole
