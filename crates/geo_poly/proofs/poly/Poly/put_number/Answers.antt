use Rattle.std.proofs.Common.{sym}
use Rattle.std.specs.Int.{w128}
use Rattle.std.proofs.lemmas.Int.{to_z-of_z}
use Rattle.geo_poly.specs.Shared.{told}
use Rattle.geo_poly.proofs.LeadingVariables.{lacking_stays}
use Rattle.geo_poly.proofs.poly.Poly.put_number.Goals as goal

pub at_number-requires-clause-weight : goal.at_number-requires-clause-weight
at_number-requires-clause-weight c = rw (to_z-of_z w128 c.args.value c.ranges.value, c.shared.ensures.terms) c.requires

pub returns-in_default-clause-put : goal.returns-in_default-clause-put
returns-in_default-clause-put c =
    sym (lacking_stays c.args.v c.args.value (told c.shared.result) c.args.self.now c.shared.ensures.terms c.shared.ensures.valid.polynomial c.in_default.ensures.none)
