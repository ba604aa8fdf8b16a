use Rattle.std.proofs.Common.{◌^◌, ◌<◌, sym, subst}
use Rattle.std.specs.Int.{w128}
use Rattle.std.proofs.lemmas.Int.{to_z-of_z}
use Rattle.geo_poly.specs.Polynomials.{Summands}
use Rattle.geo_poly.specs.Specialise.{specialised_weight}
use Rattle.geo_sample.proofs.specialisations.Specialisation.changed.Goals as goal

pub changed-requires-clause-weight : goal.changed-requires-clause-weight
changed-requires-clause-weight g c =
    let P : Summands → Type 0 = λ p. specialised_weight c.args.v c.args.number p < 2 ^ 127 in
    rw (to_z-of_z w128 c.args.number c.ranges.number) (subst P (sym c.self.view_is) c.requires.weight)
