use Rattle.std.proofs.Common.{◌≡◌, ◌^◌, ◌<◌, [], sym, subst}
use Rattle.std.specs.Prelude.{◌↔◌}
use Rattle.std.specs.Int.{w128}
use Rattle.std.proofs.lemmas.Int.{to_z-of_z}
use Rattle.geo_poly.specs.Specialise.{specialised, specialised_weight}
use Rattle.geo_sample.specs.declared.forms.Form.{Form}
use Rattle.geo_sample.specs.Inner.Forms.{polynomial_in}
use Rattle.geo_sample.proofs.OneTerm.{zero_alike}
use Rattle.geo_sample.proofs.forms.Form.changed.Goals as goal

pub changed_sum-requires : goal.changed_sum-requires
changed_sum-requires g c =
    let P : Form → Type 0 = λ f. specialised_weight c.args.v c.args.number (polynomial_in f) < 2 ^ 127 in
    rw (to_z-of_z w128 c.args.number c.ranges.number) (subst P c.in-Sum.is c.requires.weight)

pub returns-in-Term-clause-none : goal.returns-in-Term-clause-none
returns-in-Term-clause-none g c =
    let P : Form → Type 0 = λ f. (specialised c.args.v c.args.number (polynomial_in f) ≡ []) ↔ (polynomial_in f ≡ []) in
    subst P (sym c.in-Term.is) (zero_alike c.args.v c.args.number c.in-Term.term c.requires.number)
