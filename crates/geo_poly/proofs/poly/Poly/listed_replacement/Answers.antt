use Rattle.std.proofs.Common.{sym, subst}
use Rattle.geo_poly.specs.Inner.ReplacedExponents.{IsReplacedInReach}
use Rattle.geo_poly.specs.Polynomials.{Summands}
use Rattle.geo_poly.proofs.poly.Poly.listed_replacement.Goals as goal

pub nested_chain-requires-clause-set : goal.nested_chain-requires-clause-set
nested_chain-requires-clause-set g c = record {
  rising = c.requires.rising;
  rows_bounded = c.requires.can.rows_bounded;
  den_bounded = c.requires.can.den_bounded;
  rows_stored = c.requires.rows_stored;
  den_stored = c.requires.den_stored;
}

pub nested_chain-requires-clause-reach : goal.nested_chain-requires-clause-reach
nested_chain-requires-clause-reach g c =
    subst (λ (p : Summands). IsReplacedInReach c.args.vars.now (g.K.MonomialKeys.keys c.args.keys.now) c.args.rows.now c.args.den.now.piece.now c.args.top p)
    (sym c.shared.ensures.terms) c.requires.reach
