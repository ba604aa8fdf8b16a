use Rattle.std.proofs.Common.{◌≡◌, ◌^◌, ◌<◌, All, ℤ, pos, to_z, sym, ap, subst, ◌∙◌}
use Rattle.std.specs.Int.{w128}
use Rattle.std.proofs.lemmas.Int.{to_z-of_z}
use Rattle.geo_poly.specs.Polynomials.{IsPolynomial}
use Rattle.geo_poly.specs.Specialise.{specialised_weight}
use Rattle.geo_sample.specs.Tries.{all_specialised}
use Rattle.geo_sample.proofs.Changes.{zero_fits}
use Rattle.geo_sample.proofs.holding.put_number.Goals as goal

pub returns-then-number-eq0-clause-put : goal.returns-then-number-eq0-clause-put
returns-then-number-eq0-clause-put g c =
    let zero : c.args.number ≡ pos 0 = sym (to_z-of_z w128 c.args.number c.ranges.number) ∙ ap (to_z w128) c.if-number-eq0.true in
    subst (λ (z : ℤ). c.put_zero.new.polys.items ≡ all_specialised c.args.v z c.args.polys.now.items) (sym zero) c.put_zero.ensures.put

pub returns-then-number-eq0-clause-fit : goal.returns-then-number-eq0-clause-fit
returns-then-number-eq0-clause-fit g c =
    let zero : c.args.number ≡ pos 0 = sym (to_z-of_z w128 c.args.number c.ranges.number) ∙ ap (to_z w128) c.if-number-eq0.true in
    subst (λ (z : ℤ). All (λ p. specialised_weight c.args.v z p < 2 ^ 127) c.args.polys.now.items) (sym zero)
    (zero_fits c.args.v c.args.polys.now.items (subst (All IsPolynomial) c.deref.ensures.value c.are_specialisations.ensures.valid))
