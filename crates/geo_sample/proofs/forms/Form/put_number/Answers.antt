use Rattle.std.proofs.Common.{◌^◌, ◌<◌, subst}
use Rattle.std.specs.Int.{w128}
use Rattle.std.proofs.lemmas.Int.{to_z-of_z}
use Rattle.geo_poly.specs.Specialise.{specialised_weight}
use Rattle.geo_sample.specs.declared.forms.Form.{Form}
use Rattle.geo_sample.specs.Inner.Forms.{polynomial_in}
use Rattle.geo_sample.proofs.forms.Form.put_number.Goals as goal

pub put_in_term-requires : goal.put_in_term-requires
put_in_term-requires g c =
    let P : Form → Type 0 = λ f. specialised_weight c.args.v c.args.number (polynomial_in f) < 2 ^ 127 in
    rw (to_z-of_z w128 c.args.number c.ranges.number) (subst P c.in-Term.is c.requires)

pub put_in_sum-requires : goal.put_in_sum-requires
put_in_sum-requires g c =
    let P : Form → Type 0 = λ f. specialised_weight c.args.v c.args.number (polynomial_in f) < 2 ^ 127 in
    rw (to_z-of_z w128 c.args.number c.ranges.number) (subst P c.in-Sum.is c.requires)
