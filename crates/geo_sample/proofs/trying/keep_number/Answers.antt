use Rattle.std.proofs.Common.{◌≡◌, ◌^◌, ◌<◌, true, All, IfOk, ℤ, pos, to_z, sym, ap, subst, ◌∙◌}
use Rattle.std.specs.Int.{w128}
use Rattle.std.specs.Prelude.{◌↔◌, IsTrue}
use Rattle.std.proofs.lemmas.Int.{to_z-of_z}
use Rattle.geo_poly.specs.Polynomials.{IsPolynomial}
use Rattle.geo_poly.specs.Specialise.{NoneZero, specialised_weight}
use Rattle.geo_sample.specs.Tries.{all_specialised}
use Rattle.geo_sample.proofs.Changes.{zero_fits}
use Rattle.geo_sample.proofs.trying.keep_number.Goals as goal

pub returns-then-number-eq0-clause-keeps : goal.returns-then-number-eq0-clause-keeps
returns-then-number-eq0-clause-keeps g c =
    let zero : c.args.number ≡ pos 0 = sym (to_z-of_z w128 c.args.number c.ranges.number) ∙ ap (to_z w128) c.if-number-eq0.true in
    subst (λ (z : ℤ). IsTrue c.keep_zero.result ↔ NoneZero (all_specialised c.args.v z c.args.polys.now.items)) (sym zero) c.keep_zero.ensures.keeps

pub returns-then-number-eq0-clause-put : goal.returns-then-number-eq0-clause-put
returns-then-number-eq0-clause-put g c =
    let zero : c.args.number ≡ pos 0 = sym (to_z-of_z w128 c.args.number c.ranges.number) ∙ ap (to_z w128) c.if-number-eq0.true in
    subst (λ (z : ℤ). c.keep_zero.result ≡ true → c.keep_zero.new.polys.items ≡ all_specialised c.args.v z c.args.polys.now.items) (sym zero) c.keep_zero.ensures.put

pub returns-then-number-eq0-clause-fit : goal.returns-then-number-eq0-clause-fit
returns-then-number-eq0-clause-fit g c =
    let zero : c.args.number ≡ pos 0 = sym (to_z-of_z w128 c.args.number c.ranges.number) ∙ ap (to_z w128) c.if-number-eq0.true in
    subst (λ (z : ℤ). All (λ p. specialised_weight c.args.v z p < 2 ^ 127) c.args.polys.now.items) (sym zero)
    (zero_fits c.args.v c.args.polys.now.items (subst (All IsPolynomial) c.deref.ensures.value c.are_specialisations.ensures.valid))

pub returns-clause-keeps : goal.returns-clause-keeps
returns-clause-keeps g c =
    subst (λ (z : ℤ). IfOk c.keep_other.result (λ b. IsTrue b ↔ NoneZero (all_specialised c.args.v z c.args.polys.now.items)))
    (to_z-of_z w128 c.args.number c.ranges.number) c.keep_other.ensures.keeps

pub returns-clause-put : goal.returns-clause-put
returns-clause-put g c =
    subst (λ (z : ℤ). IfOk c.keep_other.result (λ b. b ≡ true → c.keep_other.new.polys.items ≡ all_specialised c.args.v z c.args.polys.now.items))
    (to_z-of_z w128 c.args.number c.ranges.number) c.keep_other.ensures.put
