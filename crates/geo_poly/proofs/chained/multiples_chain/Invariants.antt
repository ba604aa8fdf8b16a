use Rattle.std.proofs.Common.{◌+◌, ◌≤◌, drop, length}
use Rattle.geo_poly.specs.Chained.{AddsChain, StandsUnder}
use Rattle.geo_poly.specs.Inner.Keyed.{KeepsKeys, term_under, terms_under}
use Rattle.geo_poly.specs.Polynomials.{multiples}
use Rattle.geo_poly.proofs.chained.multiples_chain.Given as goal

abbrev pub invariant-loop-i : goal.invariant-loop-i
invariant-loop-i g l = record {
  left : l.i ≤ length l.list;
  room : l.i ≤ l.arena.spare;
  kept : KeepsKeys (g.K.MonomialKeys.keys l.fn.keys) (g.K.MonomialKeys.keys l.keys);
  adds : AddsChain l.fn.arena l.arena l.chain;
  chain : StandsUnder l.vars (g.K.MonomialKeys.keys l.keys) l.arena l.chain
      (multiples (term_under l.vars (g.K.MonomialKeys.keys l.fn.keys) l.t) (drop l.i (terms_under l.vars (g.K.MonomialKeys.keys l.fn.keys) l.list)));
  ticks : l.ticks + l.i ≤ l.fn.ticks + length l.list;
}

abbrev pub decreases-loop-i : goal.decreases-loop-i
decreases-loop-i g l = l.i
