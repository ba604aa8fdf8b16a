use Rattle.std.proofs.Common.{◌^◌, ◌<◌, ℤ, List, to_z, of_z, sym, ap, subst, ◌∙◌}
use Rattle.std.specs.Int.{w128}
use Rattle.std.proofs.lemmas.Int.{to_z-of_z}
use Rattle.geo_poly.specs.declared.variables.Var.{Var}
use Rattle.geo_poly.specs.Polynomials.{IsPolynomial, Summands}
use Rattle.geo_poly.specs.Shared.{IsShared, told}
use Rattle.geo_poly.specs.Specialise.{specialised, specialised_weight}
use Rattle.geo_poly.proofs.SpecialisedLaws.{IsPolynomial-specialised}
use Rattle.geo_poly.proofs.specialisation.at_number.Goals as goal

pub specialised_list-requires-clause-weight : goal.specialised_list-requires-clause-weight
specialised_list-requires-clause-weight c = subst (λ (k : ℤ). specialised_weight c.args.v k (told c.args.p.now) < 2 ^ 127) (sym (to_z-of_z w128 c.args.value c.ranges.value)) c.requires.weight

pub compact-requires : goal.compact-requires
compact-requires c =
    subst (λ (vs : List Var). IsShared vs c.specialised_list.new.store c.in_ok-list.list.items) (sym c.in_ok-from_slice.ensures.items)
    (record {
      rising = c.requires.parts.rising;
      indices = c.in_ok-list.ensures.indices;
      polynomial = subst IsPolynomial (sym (c.in_ok-list.ensures.terms ∙ ap (λ (k : ℤ). specialised c.args.v k (told c.args.p.now)) (to_z-of_z w128 c.args.value c.ranges.value)))
          (IsPolynomial-specialised c.args.v c.args.value (told c.args.p.now) c.requires.parts.polynomial.monomials c.requires.weight);
    })

pub specialised_terms-requires-clause-weight : goal.specialised_terms-requires-clause-weight
specialised_terms-requires-clause-weight c =
    let same = c.deref.ensures.value ∙ c.in_ok-terms.ensures in
    subst (λ (q : Summands). specialised_weight c.args.v (to_z w128 (of_z w128 c.args.value)) q < 2 ^ 127) (sym same)
    (subst (λ (k : ℤ). specialised_weight c.args.v k (told c.args.p.now) < 2 ^ 127) (sym (to_z-of_z w128 c.args.value c.ranges.value)) c.requires.weight)

pub from_terms-requires : goal.from_terms-requires
from_terms-requires c =
    let v = c.args.v in
    let same = c.deref.ensures.value ∙ c.in_ok-terms.ensures in
    let whole =
    c.deref-then-is_sparse.ensures.value ∙ c.in_ok-terms-2.ensures ∙ ap (λ (k : ℤ). specialised v k c.deref.result.now) (to_z-of_z w128 c.args.value c.ranges.value)
    ∙ ap (specialised v c.args.value) same in
    subst IsPolynomial (sym whole) (IsPolynomial-specialised v c.args.value (told c.args.p.now) c.requires.parts.polynomial.monomials c.requires.weight)
