use Rattle.std.proofs.Common.{◌≡◌, ◌^◌, ◌<◌, ℤ, filter, to_z, of_z, sym, ap, ap₂, subst, ◌∙◌, arith}
use Rattle.std.specs.Int.{w128}
use Rattle.std.specs.Prelude.{Contains}
use Rattle.std.proofs.lemmas.Int.{to_z-of_z}
use Rattle.std.proofs.lemmas.Result.{IfOk-weaker}
use Rattle.sparse_lists.specs.SparseLists.{AllKeys, IsCanonical}
use Rattle.mono_store.specs.Stores.{Store}
use Rattle.geo_poly.specs.Inner.Parts.{has, lacks}
use Rattle.geo_poly.specs.Monomials.{Powers, IsMonomial}
use Rattle.sparse_lists.specs.Coefficients.{coefficients}
use Rattle.geo_poly.specs.Polynomials.{Summands, norm_of, sum_of, term_cmp}
use Rattle.geo_poly.specs.PolynomialVariables.{AllVariables}
use Rattle.geo_poly.specs.Shared.{IsIndex, terms_of, told}
use Rattle.geo_poly.specs.Specialise.{specialised, specialised_weight}
use Rattle.geo_poly.proofs.ChangedParts.{AllKeys-filter, both_fit, changed_split, having_light, known-specialised}
use Rattle.geo_poly.proofs.IndexSums.{in_grown}
use Rattle.geo_poly.proofs.SpecialisedLaws.{IsCanonical-specialised, IsPolynomial-specialised}
use Rattle.geo_poly.proofs.Told.{indices-kept}
use Rattle.geo_poly.proofs.Unions.{known_variables}
use Rattle.geo_poly.proofs.ZeroPut.{IsCanonical-filter, specialised-zero}
use Rattle.geo_poly.proofs.specialisation.specialised_list.Goals as goal

pub specialised_terms-requires-clause-weight : goal.specialised_terms-requires-clause-weight
specialised_terms-requires-clause-weight c =
    subst (λ (q : Summands). specialised_weight c.args.v (to_z w128 (of_z w128 c.args.value)) q < 2 ^ 127)
    (sym (c.deref.ensures.value ∙ c.in_ok-terms.ensures
    ∙ ap (terms_of c.args.p.now.vars.now c.args.p.now.monos.now) c.as_slice.ensures.value ∙ c.in_ok-changing.ensures.terms))
    (subst (λ (k : ℤ). specialised_weight c.args.v k (filter (has c.args.v) (told c.args.p.now)) < 2 ^ 127)
    (sym (to_z-of_z w128 c.args.value c.ranges.value)) (having_light c.args.v c.args.value (told c.args.p.now) c.requires.weight))

pub stored_terms-requires-clause-monomials : goal.stored_terms-requires-clause-monomials
stored_terms-requires-clause-monomials c =
    subst (λ (q : Summands). AllKeys IsMonomial q)
    (sym (c.deref-2.ensures.value ∙ c.in_ok-terms-2.ensures
    ∙ ap (specialised c.args.v (to_z w128 (of_z w128 c.args.value)))
    (c.deref.ensures.value ∙ c.in_ok-terms.ensures ∙ ap (terms_of c.args.p.now.vars.now c.args.p.now.monos.now) c.as_slice.ensures.value
    ∙ c.in_ok-changing.ensures.terms) ∙ ap (λ (k : ℤ). specialised c.args.v k (filter (has c.args.v) (told c.args.p.now)))
    (to_z-of_z w128 c.args.value c.ranges.value)))
    (IsPolynomial-specialised c.args.v c.args.value (filter (has c.args.v) (told c.args.p.now))
    (AllKeys-filter IsMonomial (has c.args.v) (told c.args.p.now) c.requires.parts.polynomial.monomials)
    (having_light c.args.v c.args.value (told c.args.p.now) c.requires.weight)).monomials

pub stored_terms-requires-clause-known : goal.stored_terms-requires-clause-known
stored_terms-requires-clause-known c =
    let vars = c.args.p.now.vars.now in
    subst (λ (q : Summands). AllVariables (Contains c.args.p.now.vars.now) q)
    (sym (c.deref-2.ensures.value ∙ c.in_ok-terms-2.ensures
    ∙ ap (specialised c.args.v (to_z w128 (of_z w128 c.args.value)))
    (c.deref.ensures.value ∙ c.in_ok-terms.ensures ∙ ap (terms_of c.args.p.now.vars.now c.args.p.now.monos.now) c.as_slice.ensures.value
    ∙ c.in_ok-changing.ensures.terms) ∙ ap (λ (k : ℤ). specialised c.args.v k (filter (has c.args.v) (told c.args.p.now)))
    (to_z-of_z w128 c.args.value c.ranges.value)))
    (known-specialised vars c.args.v c.args.value (filter (has c.args.v) (told c.args.p.now))
    (AllKeys-filter (λ (m : Powers). AllKeys (Contains c.args.p.now.vars.now) m) (has c.args.v) (told c.args.p.now)
    (known_variables vars c.args.p.now.monos.now c.args.p.now.list.now c.requires.parts.indices)))

pub merged_lists-requires-clause-left_indices : goal.merged_lists-requires-clause-left_indices
merged_lists-requires-clause-left_indices c =
    rw c.deref-3.ensures.value (indices-kept c.args.p.now.vars.now c.args.store.now c.stored_terms.new.store c.in_ok-rest.rest.items c.in_ok-changed.ensures.kept
    (subst (λ (store : Store). AllKeys (IsIndex c.args.p.now.vars.now store) c.in_ok-rest.rest.items) (sym c.requires.same) c.in_ok-rest.ensures.parts.indices))

pub merged_lists-requires-clause-left : goal.merged_lists-requires-clause-left
merged_lists-requires-clause-left c =
    subst (IsCanonical term_cmp coefficients)
    (sym (in_grown c.args.p.now.vars.now c.args.store.now c.stored_terms.new.store c.in_ok-rest.rest.items c.deref-3.result.now
    (filter (lacks c.args.v) (told c.args.p.now)) c.deref-3.ensures.value c.in_ok-changed.ensures.kept
    (subst (λ (store : Store). AllKeys (IsIndex c.args.p.now.vars.now store) c.in_ok-rest.rest.items) (sym c.requires.same) c.in_ok-rest.ensures.parts.indices)
    (subst (λ (store : Store). terms_of c.args.p.now.vars.now store c.in_ok-rest.rest.items ≡ filter (lacks c.args.v) (told c.args.p.now))
    (sym c.requires.same) (c.in_ok-rest.ensures.terms
    ∙ specialised-zero c.args.v (told c.args.p.now) c.requires.parts.polynomial.in_order c.requires.parts.polynomial.monomials))))
    (IsCanonical-filter (lacks c.args.v) (told c.args.p.now) c.requires.parts.polynomial.in_order)

pub merged_lists-requires-clause-right : goal.merged_lists-requires-clause-right
merged_lists-requires-clause-right c =
    subst (IsCanonical term_cmp coefficients)
    (sym (ap (terms_of c.args.p.now.vars.now c.stored_terms.new.store) c.deref-4.ensures.value ∙ c.in_ok-changed.ensures.terms
    ∙ (c.deref-2.ensures.value ∙ c.in_ok-terms-2.ensures
    ∙ ap (specialised c.args.v (to_z w128 (of_z w128 c.args.value)))
    (c.deref.ensures.value ∙ c.in_ok-terms.ensures ∙ ap (terms_of c.args.p.now.vars.now c.args.p.now.monos.now) c.as_slice.ensures.value
    ∙ c.in_ok-changing.ensures.terms) ∙ ap (λ (k : ℤ). specialised c.args.v k (filter (has c.args.v) (told c.args.p.now)))
    (to_z-of_z w128 c.args.value c.ranges.value))))
    (IsCanonical-specialised c.args.v c.args.value (filter (has c.args.v) (told c.args.p.now)))

pub merged_lists-requires-clause-fits : goal.merged_lists-requires-clause-fits
merged_lists-requires-clause-fits c =
    omega (
      arith,
      ap norm_of (in_grown c.args.p.now.vars.now c.args.store.now c.stored_terms.new.store c.in_ok-rest.rest.items c.deref-3.result.now
          (filter (lacks c.args.v) (told c.args.p.now)) c.deref-3.ensures.value c.in_ok-changed.ensures.kept
          (subst (λ (store : Store). AllKeys (IsIndex c.args.p.now.vars.now store) c.in_ok-rest.rest.items) (sym c.requires.same) c.in_ok-rest.ensures.parts.indices)
          (subst (λ (store : Store). terms_of c.args.p.now.vars.now store c.in_ok-rest.rest.items ≡ filter (lacks c.args.v)
          (told c.args.p.now)) (sym c.requires.same)
          (c.in_ok-rest.ensures.terms ∙ specialised-zero c.args.v
          (told c.args.p.now) c.requires.parts.polynomial.in_order c.requires.parts.polynomial.monomials))),
      ap norm_of (ap (terms_of c.args.p.now.vars.now c.stored_terms.new.store) c.deref-4.ensures.value ∙ c.in_ok-changed.ensures.terms
          ∙ (c.deref-2.ensures.value ∙ c.in_ok-terms-2.ensures
          ∙ ap (specialised c.args.v (to_z w128 (of_z w128 c.args.value)))
          (c.deref.ensures.value ∙ c.in_ok-terms.ensures
          ∙ ap (terms_of c.args.p.now.vars.now c.args.p.now.monos.now) c.as_slice.ensures.value ∙ c.in_ok-changing.ensures.terms)
          ∙ ap (λ (k : ℤ). specialised c.args.v k (filter (has c.args.v) (told c.args.p.now)))
          (to_z-of_z w128 c.args.value c.ranges.value))),
      both_fit c.args.v c.args.value (told c.args.p.now) c.requires.weight,
    )

pub returns-clause-terms : goal.returns-clause-terms
returns-clause-terms c =
    IfOk-weaker c.merged_lists.result _ _
    (λ list h. h ∙ ap₂ sum_of (in_grown c.args.p.now.vars.now c.args.store.now c.stored_terms.new.store c.in_ok-rest.rest.items
    c.deref-3.result.now (filter (lacks c.args.v) (told c.args.p.now)) c.deref-3.ensures.value c.in_ok-changed.ensures.kept
    (subst (λ (store : Store). AllKeys (IsIndex c.args.p.now.vars.now store) c.in_ok-rest.rest.items) (sym c.requires.same) c.in_ok-rest.ensures.parts.indices)
    (subst (λ (store : Store). terms_of c.args.p.now.vars.now store c.in_ok-rest.rest.items ≡ filter (lacks c.args.v) (told c.args.p.now))
    (sym c.requires.same) (c.in_ok-rest.ensures.terms
    ∙ specialised-zero c.args.v (told c.args.p.now) c.requires.parts.polynomial.in_order c.requires.parts.polynomial.monomials)))
    (ap (terms_of c.args.p.now.vars.now c.stored_terms.new.store) c.deref-4.ensures.value ∙ c.in_ok-changed.ensures.terms
    ∙ (c.deref-2.ensures.value ∙ c.in_ok-terms-2.ensures
    ∙ ap (specialised c.args.v (to_z w128 (of_z w128 c.args.value)))
    (c.deref.ensures.value ∙ c.in_ok-terms.ensures ∙ ap (terms_of c.args.p.now.vars.now c.args.p.now.monos.now) c.as_slice.ensures.value
    ∙ c.in_ok-changing.ensures.terms) ∙ ap (λ (k : ℤ). specialised c.args.v k (filter (has c.args.v) (told c.args.p.now)))
    (to_z-of_z w128 c.args.value c.ranges.value)))
    ∙ changed_split c.args.v c.args.value
    (told c.args.p.now) c.requires.parts.polynomial.in_order c.requires.parts.polynomial.monomials)
    c.merged_lists.ensures.sum
