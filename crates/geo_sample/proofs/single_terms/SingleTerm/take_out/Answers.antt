use Rattle.std.proofs.Common.{sym, subst}
use Rattle.geo_poly.specs.Monomials.{IsMonomial}
use Rattle.geo_poly.proofs.SpecialisedLaws.{IsMonomial-without}
use Rattle.geo_sample.proofs.single_terms.SingleTerm.take_out.Goals as goal

pub replace-requires : goal.replace-requires
replace-requires c = subst IsMonomial (sym c.in_ok-others.ensures) (IsMonomial-without c.args.v c.left-2.result.now c.left-2.ensures.monomial)
