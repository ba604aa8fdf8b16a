use Rattle.std.proofs.Common.{◌≡◌, ◌<◌, ◌^◌, ℤ, inl, inr, [], ◌∷◌, length, unsigned_abs, FitsSigned, to_z, refl, sym, ap, subst, ◌∙◌, rules, arith}
use Rattle.std.specs.Int.{w128}
use Rattle.std.proofs.lemmas.Int.{ints, to_z-of_z}
use Rattle.geo_poly.specs.Polynomials.{Summands, IsPolynomial}
use Rattle.geo_poly.specs.Factors.{leading_coefficient}
use Rattle.geo_poly.specs.declared.shared.Shared.{Shared}
use Rattle.geo_poly.specs.Monomials.{Powers}
use Rattle.geo_poly.specs.Shared.{told, told_term}
use Rattle.geo_poly.proofs.Told.{item, length-terms_of, told-is}
use Rattle.geo_poly.proofs.SignedContent.{IsSigned, leading_coefficient-is, IsFactor-signed, IsFactorOf-signed, negated_number, is_negative, is_not_negative}
use Rattle.geo_poly.proofs.division.factor_of.Goals as goal
use Rattle.geo_poly.proofs.division.factor_of.Goals.{In_ok-monomial, then-p-lt0, else-p-lt0}

some_terms : (p q : Summands) → p ≡ q → (q ≡ [] → ⊥) → 0 < length p
some_terms [] q e n = absurd (n (sym e))
some_terms (t ∷ ts) q e n = omega arith

-- a polynomial that is not zero has a first entry
some_entries : (p : Shared) → (told p ≡ [] → ⊥) → 0 < length p.list.now
some_entries p n = omega (arith, length-terms_of p.vars.now p.monos.now p.list.now, some_terms (told p) (told p) refl n)

small : (c : In_ok-monomial) → unsigned_abs c.content-divisor.result < 2 ^ 127
small c =
    let fits : FitsSigned w128 c.content-divisor.result = search rules in
    omega (arith, ints, c.content-divisor.ensures.positive)

some : (c : In_ok-monomial) → 0 < length (told c.args.p.now)
some c = some_terms (told c.args.p.now) (told c.args.p.now) refl c.requires.some

-- the code's coefficient is the divisor with the sign of the leading coefficient
signed : (c : In_ok-monomial) → IsSigned (leading_coefficient (told c.args.p.now)) c.content-divisor.result (to_z w128 c.if-p-lt0.coefficient-bits)
signed c =
    let t = told_term c.args.p.now (item c.args.p.now.list.now 0) in
    let D = c.content-divisor.result in
    let z = to_z w128 c.if-p-lt0.coefficient-bits in
    let fits : FitsSigned w128 c.content-divisor.result = search rules in
    let lead : FitsSigned w128 (item c.args.p.now.list.now 0).1 = search rules in
    subst (λ (x : ℤ). IsSigned x D z)
    (sym (leading_coefficient-is (told c.args.p.now) t (some c)
    ∙ ap (λ (x : Powers × ℤ). x.1) (sym (told-is c.args.p.now 0 (some_entries c.args.p.now c.requires.some)))))
    (record {
      choice = elim c.if-p-lt0.branch [
        | then-p-lt0 w ↦ inl (is_negative t.1 lead w.if-p-lt0.true, negated_number D z fits (small c) w.coefficient-is)
        | else-p-lt0 w ↦ inr (is_not_negative t.1 lead w.if-p-lt0.false, w.coefficient-is ∙ to_z-of_z w128 D fits)
      ];
    })

whole : (c : In_ok-monomial) → IsPolynomial (told c.args.p.now)
whole c = c.requires.parts.polynomial

pub invariant_of-result : goal.invariant_of-result
invariant_of-result c =
    IsFactor-signed (told c.args.p.now) c.in_ok-monomial.monomial c.content-divisor.result (to_z w128 c.if-p-lt0.coefficient-bits) (whole c)
    (some c) c.content-divisor.ensures.divides (small c) (signed c) c.in_ok-monomial.ensures.monomial

pub returns : goal.returns
returns c =
    (IsFactorOf-signed c.args.known.now (told c.args.p.now) c.in_ok-monomial.monomial c.content-divisor.result
    (to_z w128 c.if-p-lt0.coefficient-bits) (whole c)
    (some c) c.content-divisor.ensures.positive c.content-divisor.ensures.divides c.content-divisor.ensures.greatest
    (signed c) c.in_ok-monomial.ensures.monomial c.in_ok-monomial.ensures.known c.in_ok-monomial.ensures.others)
