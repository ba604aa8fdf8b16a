use Rattle.std.proofs.Common.{◌≡◌, inl, inr, ℤ, refl, sym, ap, subst, ◌∙◌, arith, rules, unsigned_abs, ◌<◌, ◌^◌}
use Rattle.std.specs.Int.{w128}
use Rattle.std.proofs.lemmas.Int.{to_z-of_z}
use Rattle.std.proofs.lemmas.Result.{IfOk-weaker}
use Rattle.geo_poly.specs.Polynomials.{constant_of, negated}
use Rattle.geo_terms.specs.declared.nodes.Node.TheVariants.{Int, Param, S, P, R, Neg, Add, Sub, Mul, Div}
use Rattle.geo_terms.specs.Stores.{tree_of}
use Rattle.fraction_poly.specs.MultipliedOut.{multiplied_out, whole_fraction, fraction_sum, fraction_difference, fraction_product, fraction_quotient}
use Rattle.fraction_poly.proofs.Nodes.{IsAtNode, node_result, part_stands, integer_fits, negation_is, addition_charge, addition_fits, addition_is}
use Rattle.fraction_poly.proofs.Nodes.{subtraction_charge, subtraction_fits, subtraction_is, multiplication_charge, multiplication_fits, multiplication_is}
use Rattle.fraction_poly.proofs.Nodes.{division_charge, division_fits, division_is}
use Rattle.fraction_poly.proofs.multiplying.fraction.Goals as goal

pub constant-requires : goal.constant-requires
constant-requires g c =
    let h : IsAtNode c.args.terms.now c.args.parts.now c.args.id (Int c.in-Int.n) = record { store = c.requires.valid; at = c.in-Int.ensures; fits = c.requires.fits; ready = c.requires.parts } in
    subst (λ (n : ℤ). unsigned_abs n < 2 ^ 127) (sym (to_z-of_z w128 c.in-Int.n (search rules))) (integer_fits c.args.terms.now c.args.parts.now c.args.id c.in-Int.n h)

pub returns-in_ok-constant-in-Int-clause-fraction : goal.returns-in_ok-constant-in-Int-clause-fraction
returns-in_ok-constant-in-Int-clause-fraction g c =
    let h : IsAtNode c.args.terms.now c.args.parts.now c.args.id (Int c.in-Int.n) = record { store = c.requires.valid; at = c.in-Int.ensures; fits = c.requires.fits; ready = c.requires.parts } in
    IfOk-weaker c.whole.result (λ f. f ≡ whole_fraction c.in_ok-constant-in-Int.field-0) (λ f. f ≡ multiplied_out (tree_of c.args.terms.now c.args.id))
    (λ f is. node_result c.args.terms.now c.args.parts.now c.args.id (Int c.in-Int.n) h f
    (is ∙ ap whole_fraction (c.in_ok-constant-in-Int.ensures ∙ ap constant_of (to_z-of_z w128 c.in-Int.n (search rules)))))
    c.whole.ensures

pub returns-in_ok-var-in-Param-clause-fraction : goal.returns-in_ok-var-in-Param-clause-fraction
returns-in_ok-var-in-Param-clause-fraction g c =
    let h : IsAtNode c.args.terms.now c.args.parts.now c.args.id
    (Param c.in-Param.t) =
    record { store = c.requires.valid; at = c.in-Param.ensures; fits = c.requires.fits; ready = c.requires.parts } in
    IfOk-weaker c.whole-in-Param.result (λ f. f ≡ whole_fraction c.in_ok-var-in-Param.field-0) (λ f. f ≡ multiplied_out (tree_of c.args.terms.now c.args.id))
    (λ f is. node_result c.args.terms.now c.args.parts.now c.args.id (Param c.in-Param.t) h f (is ∙ ap whole_fraction c.in_ok-var-in-Param.ensures))
    c.whole-in-Param.ensures

pub returns-in_ok-area-in-S-clause-fraction : goal.returns-in_ok-area-in-S-clause-fraction
returns-in_ok-area-in-S-clause-fraction g c =
    let h : IsAtNode c.args.terms.now c.args.parts.now c.args.id
    (S c.in-S.a c.in-S.b c.in-S.c) =
    record { store = c.requires.valid; at = c.in-S.ensures; fits = c.requires.fits; ready = c.requires.parts } in
    IfOk-weaker c.whole-in-S.result (λ f. f ≡ whole_fraction c.in_ok-area-in-S.field-0) (λ f. f ≡ multiplied_out (tree_of c.args.terms.now c.args.id))
    (λ f is. node_result c.args.terms.now c.args.parts.now c.args.id (S c.in-S.a c.in-S.b c.in-S.c) h f (is ∙ ap whole_fraction c.in_ok-area-in-S.ensures))
    c.whole-in-S.ensures

pub part-requires : goal.part-requires
part-requires g c =
    let h : IsAtNode c.args.terms.now c.args.parts.now c.args.id (Neg c.in-Neg.e) = record { store = c.requires.valid; at = c.in-Neg.ensures; fits = c.requires.fits; ready = c.requires.parts } in
    part_stands c.args.terms.now c.args.parts.now c.args.id (Neg c.in-Neg.e) h c.in-Neg.e refl

pub returns-in-Neg-clause-fraction : goal.returns-in-Neg-clause-fraction
returns-in-Neg-clause-fraction g c =
    let h : IsAtNode c.args.terms.now c.args.parts.now c.args.id (Neg c.in-Neg.e) = record { store = c.requires.valid; at = c.in-Neg.ensures; fits = c.requires.fits; ready = c.requires.parts } in
    let x = c.part.result.now in
    IfOk-weaker c.negation.result (λ f. f ≡ (negated x.0, x.1)) (λ f. f ≡ multiplied_out (tree_of c.args.terms.now c.args.id))
    (λ f is. is ∙ negation_is c.args.terms.now c.args.parts.now c.args.id c.in-Neg.e x h c.part.ensures)
    c.negation.ensures

pub part-requires-in-Add : goal.part-requires-in-Add
part-requires-in-Add g c =
    let h : IsAtNode c.args.terms.now c.args.parts.now c.args.id
    (Add c.in-Add.e c.in-Add.f) =
    record { store = c.requires.valid; at = c.in-Add.ensures; fits = c.requires.fits; ready = c.requires.parts } in
    part_stands c.args.terms.now c.args.parts.now c.args.id (Add c.in-Add.e c.in-Add.f) h c.in-Add.e (inl refl)

pub part-requires-in-Add-2 : goal.part-requires-in-Add-2
part-requires-in-Add-2 g c =
    let h : IsAtNode c.args.terms.now c.args.parts.now c.args.id
    (Add c.in-Add.e c.in-Add.f) =
    record { store = c.requires.valid; at = c.in-Add.ensures; fits = c.requires.fits; ready = c.requires.parts } in
    part_stands c.args.terms.now c.args.parts.now c.args.id (Add c.in-Add.e c.in-Add.f) h c.in-Add.f (inr refl)

pub sum-requires : goal.sum-requires
sum-requires g c =
    let h : IsAtNode c.args.terms.now c.args.parts.now c.args.id
    (Add c.in-Add.e c.in-Add.f) =
    record { store = c.requires.valid; at = c.in-Add.ensures; fits = c.requires.fits; ready = c.requires.parts } in
    addition_fits c.args.terms.now c.args.parts.now c.args.id c.in-Add.e c.in-Add.f c.part-in-Add.result.now c.part-in-Add-2.result.now c.part-in-Add.ensures c.part-in-Add-2.ensures h

pub returns-in-Add-clause-fraction : goal.returns-in-Add-clause-fraction
returns-in-Add-clause-fraction g c =
    let h : IsAtNode c.args.terms.now c.args.parts.now c.args.id
    (Add c.in-Add.e c.in-Add.f) =
    record { store = c.requires.valid; at = c.in-Add.ensures; fits = c.requires.fits; ready = c.requires.parts } in
    IfOk-weaker c.sum.result (λ f. f ≡ fraction_sum c.part-in-Add.result.now c.part-in-Add-2.result.now) (λ f. f ≡ multiplied_out (tree_of c.args.terms.now c.args.id))
    (λ f is. is ∙ addition_is c.args.terms.now c.args.parts.now c.args.id c.in-Add.e c.in-Add.f c.part-in-Add.result.now c.part-in-Add-2.result.now c.part-in-Add.ensures c.part-in-Add-2.ensures h)
    c.sum.ensures.sum

pub part-requires-in-Sub : goal.part-requires-in-Sub
part-requires-in-Sub g c =
    let h : IsAtNode c.args.terms.now c.args.parts.now c.args.id
    (Sub c.in-Sub.e c.in-Sub.f) =
    record { store = c.requires.valid; at = c.in-Sub.ensures; fits = c.requires.fits; ready = c.requires.parts } in
    part_stands c.args.terms.now c.args.parts.now c.args.id (Sub c.in-Sub.e c.in-Sub.f) h c.in-Sub.e (inl refl)

pub part-requires-in-Sub-2 : goal.part-requires-in-Sub-2
part-requires-in-Sub-2 g c =
    let h : IsAtNode c.args.terms.now c.args.parts.now c.args.id
    (Sub c.in-Sub.e c.in-Sub.f) =
    record { store = c.requires.valid; at = c.in-Sub.ensures; fits = c.requires.fits; ready = c.requires.parts } in
    part_stands c.args.terms.now c.args.parts.now c.args.id (Sub c.in-Sub.e c.in-Sub.f) h c.in-Sub.f (inr refl)

pub difference-requires : goal.difference-requires
difference-requires g c =
    let h : IsAtNode c.args.terms.now c.args.parts.now c.args.id
    (Sub c.in-Sub.e c.in-Sub.f) =
    record { store = c.requires.valid; at = c.in-Sub.ensures; fits = c.requires.fits; ready = c.requires.parts } in
    subtraction_fits c.args.terms.now c.args.parts.now c.args.id c.in-Sub.e c.in-Sub.f c.part-in-Sub.result.now c.part-in-Sub-2.result.now c.part-in-Sub.ensures c.part-in-Sub-2.ensures h

pub returns-in-Sub-clause-fraction : goal.returns-in-Sub-clause-fraction
returns-in-Sub-clause-fraction g c =
    let h : IsAtNode c.args.terms.now c.args.parts.now c.args.id
    (Sub c.in-Sub.e c.in-Sub.f) =
    record { store = c.requires.valid; at = c.in-Sub.ensures; fits = c.requires.fits; ready = c.requires.parts } in
    IfOk-weaker c.difference.result (λ f. f ≡ fraction_difference c.part-in-Sub.result.now c.part-in-Sub-2.result.now) (λ f. f ≡ multiplied_out (tree_of c.args.terms.now c.args.id))
    (λ f is. is ∙ subtraction_is c.args.terms.now c.args.parts.now c.args.id c.in-Sub.e c.in-Sub.f c.part-in-Sub.result.now c.part-in-Sub-2.result.now c.part-in-Sub.ensures c.part-in-Sub-2.ensures h)
    c.difference.ensures.difference

pub part-requires-in-Mul : goal.part-requires-in-Mul
part-requires-in-Mul g c =
    let h : IsAtNode c.args.terms.now c.args.parts.now c.args.id
    (Mul c.in-Mul.e c.in-Mul.f) =
    record { store = c.requires.valid; at = c.in-Mul.ensures; fits = c.requires.fits; ready = c.requires.parts } in
    part_stands c.args.terms.now c.args.parts.now c.args.id (Mul c.in-Mul.e c.in-Mul.f) h c.in-Mul.e (inl refl)

pub part-requires-in-Mul-2 : goal.part-requires-in-Mul-2
part-requires-in-Mul-2 g c =
    let h : IsAtNode c.args.terms.now c.args.parts.now c.args.id
    (Mul c.in-Mul.e c.in-Mul.f) =
    record { store = c.requires.valid; at = c.in-Mul.ensures; fits = c.requires.fits; ready = c.requires.parts } in
    part_stands c.args.terms.now c.args.parts.now c.args.id (Mul c.in-Mul.e c.in-Mul.f) h c.in-Mul.f (inr refl)

pub product-requires-clause-numerators : goal.product-requires-clause-numerators
product-requires-clause-numerators g c =
    let h : IsAtNode c.args.terms.now c.args.parts.now c.args.id
    (Mul c.in-Mul.e c.in-Mul.f) =
    record { store = c.requires.valid; at = c.in-Mul.ensures; fits = c.requires.fits; ready = c.requires.parts } in
    (multiplication_fits c.args.terms.now c.args.parts.now c.args.id c.in-Mul.e c.in-Mul.f c.part-in-Mul.result.now
    c.part-in-Mul-2.result.now c.part-in-Mul.ensures c.part-in-Mul-2.ensures h).numerator

pub product-requires-clause-denominators : goal.product-requires-clause-denominators
product-requires-clause-denominators g c =
    let h : IsAtNode c.args.terms.now c.args.parts.now c.args.id
    (Mul c.in-Mul.e c.in-Mul.f) =
    record { store = c.requires.valid; at = c.in-Mul.ensures; fits = c.requires.fits; ready = c.requires.parts } in
    (multiplication_fits c.args.terms.now c.args.parts.now c.args.id c.in-Mul.e c.in-Mul.f c.part-in-Mul.result.now
    c.part-in-Mul-2.result.now c.part-in-Mul.ensures c.part-in-Mul-2.ensures h).denominator

pub returns-in-Mul-clause-fraction : goal.returns-in-Mul-clause-fraction
returns-in-Mul-clause-fraction g c =
    let h : IsAtNode c.args.terms.now c.args.parts.now c.args.id
    (Mul c.in-Mul.e c.in-Mul.f) =
    record { store = c.requires.valid; at = c.in-Mul.ensures; fits = c.requires.fits; ready = c.requires.parts } in
    IfOk-weaker c.product.result (λ f. f ≡ fraction_product c.part-in-Mul.result.now c.part-in-Mul-2.result.now) (λ f. f ≡ multiplied_out (tree_of c.args.terms.now c.args.id))
    (λ f is. is ∙ multiplication_is c.args.terms.now c.args.parts.now c.args.id c.in-Mul.e c.in-Mul.f c.part-in-Mul.result.now
    c.part-in-Mul-2.result.now c.part-in-Mul.ensures c.part-in-Mul-2.ensures h)
    c.product.ensures.product

pub part-requires-in-Div : goal.part-requires-in-Div
part-requires-in-Div g c =
    let h : IsAtNode c.args.terms.now c.args.parts.now c.args.id
    (Div c.in-Div.e c.in-Div.f) =
    record { store = c.requires.valid; at = c.in-Div.ensures; fits = c.requires.fits; ready = c.requires.parts } in
    part_stands c.args.terms.now c.args.parts.now c.args.id (Div c.in-Div.e c.in-Div.f) h c.in-Div.e (inl refl)

pub part-requires-in-Div-2 : goal.part-requires-in-Div-2
part-requires-in-Div-2 g c =
    let h : IsAtNode c.args.terms.now c.args.parts.now c.args.id
    (Div c.in-Div.e c.in-Div.f) =
    record { store = c.requires.valid; at = c.in-Div.ensures; fits = c.requires.fits; ready = c.requires.parts } in
    part_stands c.args.terms.now c.args.parts.now c.args.id (Div c.in-Div.e c.in-Div.f) h c.in-Div.f (inr refl)

pub quotient-requires-clause-numerator : goal.quotient-requires-clause-numerator
quotient-requires-clause-numerator g c =
    let h : IsAtNode c.args.terms.now c.args.parts.now c.args.id
    (Div c.in-Div.e c.in-Div.f) =
    record { store = c.requires.valid; at = c.in-Div.ensures; fits = c.requires.fits; ready = c.requires.parts } in
    (division_fits c.args.terms.now c.args.parts.now c.args.id c.in-Div.e c.in-Div.f c.part-in-Div.result.now c.part-in-Div-2.result.now c.part-in-Div.ensures c.part-in-Div-2.ensures h).numerator

pub quotient-requires-clause-denominator : goal.quotient-requires-clause-denominator
quotient-requires-clause-denominator g c =
    let h : IsAtNode c.args.terms.now c.args.parts.now c.args.id
    (Div c.in-Div.e c.in-Div.f) =
    record { store = c.requires.valid; at = c.in-Div.ensures; fits = c.requires.fits; ready = c.requires.parts } in
    (division_fits c.args.terms.now c.args.parts.now c.args.id c.in-Div.e c.in-Div.f c.part-in-Div.result.now c.part-in-Div-2.result.now c.part-in-Div.ensures c.part-in-Div-2.ensures h).denominator

pub returns-in-Div-clause-fraction : goal.returns-in-Div-clause-fraction
returns-in-Div-clause-fraction g c =
    let h : IsAtNode c.args.terms.now c.args.parts.now c.args.id
    (Div c.in-Div.e c.in-Div.f) =
    record { store = c.requires.valid; at = c.in-Div.ensures; fits = c.requires.fits; ready = c.requires.parts } in
    IfOk-weaker c.quotient.result (λ f. f ≡ fraction_quotient c.part-in-Div.result.now c.part-in-Div-2.result.now) (λ f. f ≡ multiplied_out (tree_of c.args.terms.now c.args.id))
    (λ f is. is ∙ division_is c.args.terms.now c.args.parts.now c.args.id c.in-Div.e c.in-Div.f c.part-in-Div.result.now c.part-in-Div-2.result.now c.part-in-Div.ensures c.part-in-Div-2.ensures h)
    c.quotient.ensures.quotient

pub returns-in_ok-pythagoras-in-P-clause-fraction : goal.returns-in_ok-pythagoras-in-P-clause-fraction
returns-in_ok-pythagoras-in-P-clause-fraction g c =
    let h : IsAtNode c.args.terms.now c.args.parts.now c.args.id
    (P c.in-P.a c.in-P.b c.in-P.c) =
    record { store = c.requires.valid; at = c.in-P.ensures; fits = c.requires.fits; ready = c.requires.parts } in
    IfOk-weaker c.whole-in-P.result (λ f. f ≡ whole_fraction c.in_ok-pythagoras-in-P.field-0) (λ f. f ≡ multiplied_out (tree_of c.args.terms.now c.args.id))
    (λ f is. node_result c.args.terms.now c.args.parts.now c.args.id (P c.in-P.a c.in-P.b c.in-P.c) h f (is ∙ ap whole_fraction c.in_ok-pythagoras-in-P.ensures))
    c.whole-in-P.ensures

pub returns-in_ok-ratio-in-R-clause-fraction : goal.returns-in_ok-ratio-in-R-clause-fraction
returns-in_ok-ratio-in-R-clause-fraction g c =
    let h : IsAtNode c.args.terms.now c.args.parts.now c.args.id
    (R c.in-R.a c.in-R.b c.in-R.c c.in-R.d) =
    record { store = c.requires.valid; at = c.in-R.ensures; fits = c.requires.fits; ready = c.requires.parts } in
    IfOk-weaker c.whole-in-R.result (λ f. f ≡ whole_fraction c.in_ok-ratio-in-R.field-0) (λ f. f ≡ multiplied_out (tree_of c.args.terms.now c.args.id))
    (λ f is. node_result c.args.terms.now c.args.parts.now c.args.id (R c.in-R.a c.in-R.b c.in-R.c c.in-R.d) h f (is ∙ ap whole_fraction c.in_ok-ratio-in-R.ensures))
    c.whole-in-R.ensures

pub returns-in-Add-clause-ticks : goal.returns-in-Add-clause-ticks
returns-in-Add-clause-ticks g c =
    let h : IsAtNode c.args.terms.now c.args.parts.now c.args.id
    (Add c.in-Add.e c.in-Add.f) =
    record { store = c.requires.valid; at = c.in-Add.ensures; fits = c.requires.fits; ready = c.requires.parts } in
    let within = addition_charge c.args.terms.now c.args.parts.now c.args.id c.in-Add.e c.in-Add.f c.part-in-Add.result.now
    c.part-in-Add-2.result.now c.part-in-Add.ensures c.part-in-Add-2.ensures h in
    omega (arith, within, c.sum.ensures.ticks)

pub returns-in-Sub-clause-ticks : goal.returns-in-Sub-clause-ticks
returns-in-Sub-clause-ticks g c =
    let h : IsAtNode c.args.terms.now c.args.parts.now c.args.id
    (Sub c.in-Sub.e c.in-Sub.f) =
    record { store = c.requires.valid; at = c.in-Sub.ensures; fits = c.requires.fits; ready = c.requires.parts } in
    let within = subtraction_charge c.args.terms.now c.args.parts.now c.args.id c.in-Sub.e c.in-Sub.f c.part-in-Sub.result.now
    c.part-in-Sub-2.result.now c.part-in-Sub.ensures c.part-in-Sub-2.ensures h in
    omega (arith, within, c.difference.ensures.ticks)

pub returns-in-Mul-clause-ticks : goal.returns-in-Mul-clause-ticks
returns-in-Mul-clause-ticks g c =
    let h : IsAtNode c.args.terms.now c.args.parts.now c.args.id
    (Mul c.in-Mul.e c.in-Mul.f) =
    record { store = c.requires.valid; at = c.in-Mul.ensures; fits = c.requires.fits; ready = c.requires.parts } in
    let within = multiplication_charge c.args.terms.now c.args.parts.now c.args.id c.in-Mul.e c.in-Mul.f c.part-in-Mul.result.now
    c.part-in-Mul-2.result.now c.part-in-Mul.ensures c.part-in-Mul-2.ensures h in
    omega (arith, within, c.product.ensures.ticks)

pub returns-in-Div-clause-ticks : goal.returns-in-Div-clause-ticks
returns-in-Div-clause-ticks g c =
    let h : IsAtNode c.args.terms.now c.args.parts.now c.args.id
    (Div c.in-Div.e c.in-Div.f) =
    record { store = c.requires.valid; at = c.in-Div.ensures; fits = c.requires.fits; ready = c.requires.parts } in
    let within = division_charge c.args.terms.now c.args.parts.now c.args.id c.in-Div.e c.in-Div.f c.part-in-Div.result.now
    c.part-in-Div-2.result.now c.part-in-Div.ensures c.part-in-Div-2.ensures h in
    omega (arith, within, c.quotient.ensures.ticks)
