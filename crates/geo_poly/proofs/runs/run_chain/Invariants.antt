use Rattle.std.proofs.Common.{◌≡◌, ◌≤◌, drop, length, map}
use Rattle.sparse_lists.specs.SparseLists.{IsCanonical}
use Rattle.poly_arena.specs.Chains.{pairs_of}
use Rattle.geo_poly.specs.Chained.{AddsChain, StandsUnder}
use Rattle.geo_poly.specs.Inner.Factored.{factored_terms, told_pending}
use Rattle.geo_poly.specs.Inner.Keyed.{KeepsKeys}
use Rattle.geo_poly.specs.Inner.Runs.{first_key}
use Rattle.sparse_lists.specs.Coefficients.{coefficients}
use Rattle.geo_poly.specs.Polynomials.{term_cmp}
use Rattle.geo_poly.proofs.runs.run_chain.Given as goal

abbrev pub invariant-loop-i : goal.invariant-loop-i
invariant-loop-i g l = record {
  left : l.i ≤ length l.pending;
  room : l.i ≤ l.arena.spare;
  kept : KeepsKeys (g.K.MonomialKeys.keys l.fn.keys) (g.K.MonomialKeys.keys l.keys);
  adds : AddsChain l.fn.arena l.arena l.chain;
  first : l.first ≡ first_key (pairs_of l.arena l.chain);
  order : IsCanonical term_cmp coefficients (factored_terms (map (told_pending l.setting l.p l.depth) (drop l.i l.pending)));
  chain : StandsUnder l.setting.vars.now (g.K.MonomialKeys.keys l.keys) l.arena l.chain
      (factored_terms (map (told_pending l.setting l.p l.depth) (drop l.i l.pending)));
}

abbrev pub decreases-loop-i : goal.decreases-loop-i
decreases-loop-i g l = l.i
