use Rattle.std.proofs.Common.{refl, sym, ◌∙◌}
use Rattle.std.specs.Int.{w128}
use Rattle.std.proofs.lemmas.Int.{to_z-of_z}
use Rattle.geo_poly.proofs.LeadingVariables.{lacking_stays}
use Rattle.geo_sample.proofs.forms.changed_sum.Goals as goal

pub returns-then-degree_in-eq0-clause-none : goal.returns-then-degree_in-eq0-clause-none
returns-then-degree_in-eq0-clause-none g c =
    lacking_stays c.args.v c.args.number c.args.poly.now c.args.poly.now refl c.is_valid.ensures.valid (sym c.degree_in.ensures ∙ c.if-degree_in-eq0.true)

pub put_number-requires : goal.put_number-requires
put_number-requires g c = rw (to_z-of_z w128 c.args.number c.ranges.number, c.in_ok-changed.ensures) c.requires
