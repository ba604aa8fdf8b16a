use Rattle.std.proofs.Common.{◌+◌, ◌≤◌, drop, length}
use Rattle.poly_arena.specs.Chains.{pairs_of}
use Rattle.geo_poly.specs.Chained.{StandsUnder, keyed_terms_under}
use Rattle.geo_poly.specs.Inner.Factored.{pieces_of, products_with, times_pieces}
use Rattle.geo_poly.specs.Inner.Keyed.{KeepsKeys}
use Rattle.geo_poly.specs.Inner.Settings.{Swaps}
use Rattle.geo_poly.proofs.nested.times_factors.Given as goal

abbrev pub invariant-loop-i : goal.invariant-loop-i
invariant-loop-i g l = record {
  within : l.i ≤ length l.factors;
  kept : KeepsKeys (g.K.MonomialKeys.keys l.fn.keys) (g.K.MonomialKeys.keys l.keys);
  swaps : Swaps l.fn.arena l.arena l.fn.chain l.product;
  chain : StandsUnder l.setting.vars.now (g.K.MonomialKeys.keys l.keys) l.arena l.product
      (times_pieces (pieces_of l.setting.rows.now l.setting.den.piece.now (drop l.i l.factors))
      (keyed_terms_under l.setting.vars.now (g.K.MonomialKeys.keys l.fn.keys) (pairs_of l.fn.arena l.fn.chain)));
  ticks : l.ticks ≤ l.fn.ticks + products_with (pieces_of l.setting.rows.now l.setting.den.piece.now (drop l.i l.factors)) (length (pairs_of l.fn.arena l.fn.chain));
}

abbrev pub decreases-loop-i : goal.decreases-loop-i
decreases-loop-i g l = l.i
