use Rattle.std.proofs.Common.{◌<◌, length, sym, subst}
use Rattle.geo_poly.specs.Polynomials.{Summands}
use Rattle.poly_tests.proofs.polynomials.index_told.Goals as goal

pub mono_at-requires-clause-place : goal.mono_at-requires-clause-place
mono_at-requires-clause-place c = subst (λ (q : Summands). c.args.i < length q) (sym c.deref.ensures.terms) c.requires
