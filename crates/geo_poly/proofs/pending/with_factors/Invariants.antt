use Rattle.std.proofs.Common.{◌≡◌, ◌++◌, drop, map}
use Rattle.geo_poly.specs.Inner.Factored.{numbered_of, numbered_terms}
use Rattle.geo_poly.proofs.pending.with_factors.Given as goal

abbrev pub invariant-loop-term : goal.invariant-loop-term
invariant-loop-term l = map numbered_of l.pending.items ++ numbered_terms l.left (drop l.term-index l.terms) ≡ numbered_terms l.factors l.terms
