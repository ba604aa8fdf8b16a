use Rattle.std.proofs.Common.{refl, sym, ◌∙◌}
use Rattle.std.specs.Int.{w128}
use Rattle.std.proofs.lemmas.Int.{to_z-of_z}
use Rattle.geo_poly.proofs.LeadingVariables.{lacking_stays}
use Rattle.geo_sample.proofs.forms.put_in_sum.Goals as goal

pub put_number-requires : goal.put_number-requires
put_number-requires c = rw (to_z-of_z w128 c.args.number c.ranges.number) c.requires

pub returns-else-degree_in-ne0 : goal.returns-else-degree_in-ne0
returns-else-degree_in-ne0 c =
    sym (lacking_stays c.args.v c.args.number c.args.poly.now c.args.poly.now refl c.is_valid.ensures.valid (sym c.degree_in.ensures ∙ c.if-degree_in-ne0.false))
