use Rattle.std.proofs.Common.{ℤ, refl, inl, inr, sym, ap, subst, rules, unsigned_abs, ◌<◌, ◌^◌, arith}
use Rattle.std.specs.Int.{w128}
use Rattle.std.specs.Prelude.{Contains}
use Rattle.std.proofs.lemmas.Int.{to_z-of_z}
use Rattle.std.proofs.lemmas.Result.{IfOk-weaker}
use Rattle.geo_poly.specs.declared.canonical.Canon.{Canon}
use Rattle.geo_poly.specs.Polynomials.{Summands, constant_of}
use Rattle.geo_poly.specs.PolynomialVariables.{AllVariables}
use Rattle.geo_poly.specs.Rings.{IsElementFor}
use Rattle.geo_terms.specs.declared.nodes.Node.TheVariants.{Int, Param, S, P, R, Neg, Add, Sub, Mul, Div}
use Rattle.geo_terms.specs.Stores.{tree_of}
use Rattle.fraction_poly.specs.MultipliedOut.{canon_polynomial}
use Rattle.fraction_poly.proofs.LinearTerms.{difference_fits, linear_kept, node_fits, node_linear, numerator_at, numerator_difference}
use Rattle.fraction_poly.proofs.LinearTerms.{numerator_kept, numerator_opposite, numerator_sum, sum_fits}
use Rattle.fraction_poly.proofs.Rooms.{part_fits}
use Rattle.fraction_poly.proofs.SmallTerms.{part_stored}
use Rattle.fraction_poly.proofs.numerators.+numerator.Goals as goal

pub constant-requires : goal.constant-requires
constant-requires t c =
    let fits = node_fits c.args.terms.now c.args.id (Int c.in-Int.n) c.requires.valid c.in-Int.ensures c.requires.fits in
    subst (λ (n : ℤ). unsigned_abs n < 2 ^ 127) (sym (to_z-of_z w128 c.in-Int.n (search rules))) (omega (arith, fits.room.numerator_weight))

pub returns-in-Int-clause-numerator : goal.returns-in-Int-clause-numerator
returns-in-Int-clause-numerator t c =
    IfOk-weaker c.constant.result _ _
    (λ z made. numerator_at c.args.terms.now c.args.id (Int c.in-Int.n) c.requires.valid c.in-Int.ensures c.args.ring.now z
    (record {
      numerator = subst (λ (p : Summands). IsElementFor c.args.ring.now p z)
          (ap constant_of (to_z-of_z w128 c.in-Int.n (search rules))) made;
      one = refl;
    }))
    c.constant.ensures

pub multiple-requires-clause-known : goal.multiple-requires-clause-known
multiple-requires-clause-known t c =
    node_linear c.args.terms.now c.args.id (Param c.in-Param.t) c.requires.valid c.in-Param.ensures c.args.ring.now.vars c.requires.linear

pub returns-in-Param-clause-numerator : goal.returns-in-Param-clause-numerator
returns-in-Param-clause-numerator t c =
    IfOk-weaker c.multiple.result _ _
    (λ z made. numerator_at c.args.terms.now c.args.id (Param c.in-Param.t) c.requires.valid c.in-Param.ensures c.multiple.new.self z (record { numerator = made; one = refl }))
    c.multiple.ensures.element

pub canonical-requires-clause-known : goal.canonical-requires-clause-known
canonical-requires-clause-known t c =
    subst (λ (canon : Canon). AllVariables (Contains c.args.ring.now.vars) (canon_polynomial canon)) (sym c.canon_s.ensures)
    (node_linear c.args.terms.now c.args.id (S c.in-S.a c.in-S.b c.in-S.c) c.requires.valid c.in-S.ensures c.args.ring.now.vars c.requires.linear)

pub returns-in-S-clause-numerator : goal.returns-in-S-clause-numerator
returns-in-S-clause-numerator t c =
    let ring = c.canonical.new.ring in
    IfOk-weaker c.canonical.result _ _
    (λ z made. numerator_at c.args.terms.now c.args.id (S c.in-S.a c.in-S.b c.in-S.c) c.requires.valid c.in-S.ensures ring z
    (record { numerator = subst (λ (canon : Canon). IsElementFor ring (canon_polynomial canon) z) c.canon_s.ensures made; one = refl }))
    c.canonical.ensures.element

pub canonical-requires-in-P-clause-known : goal.canonical-requires-in-P-clause-known
canonical-requires-in-P-clause-known t c =
    subst (λ (canon : Canon). AllVariables (Contains c.args.ring.now.vars) (canon_polynomial canon)) (sym c.canon_p.ensures)
    (node_linear c.args.terms.now c.args.id (P c.in-P.a c.in-P.b c.in-P.c) c.requires.valid c.in-P.ensures c.args.ring.now.vars c.requires.linear)

pub returns-in-P-clause-numerator : goal.returns-in-P-clause-numerator
returns-in-P-clause-numerator t c =
    let ring = c.canonical-in-P.new.ring in
    IfOk-weaker c.canonical-in-P.result _ _
    (λ z made. numerator_at c.args.terms.now c.args.id (P c.in-P.a c.in-P.b c.in-P.c) c.requires.valid c.in-P.ensures ring z
    (record { numerator = subst (λ (canon : Canon). IsElementFor ring (canon_polynomial canon) z) c.canon_p.ensures made; one = refl }))
    c.canonical-in-P.ensures.element

pub canonical-requires-in-R-clause-known : goal.canonical-requires-in-R-clause-known
canonical-requires-in-R-clause-known t c =
    subst (λ (canon : Canon). AllVariables (Contains c.args.ring.now.vars) (canon_polynomial canon)) (sym c.canon_r.ensures)
    (node_linear c.args.terms.now c.args.id (R c.in-R.a c.in-R.b c.in-R.c c.in-R.d) c.requires.valid c.in-R.ensures c.args.ring.now.vars c.requires.linear)

pub returns-in-R-clause-numerator : goal.returns-in-R-clause-numerator
returns-in-R-clause-numerator t c =
    let ring = c.canonical-in-R.new.ring in
    IfOk-weaker c.canonical-in-R.result _ _
    (λ z made. numerator_at c.args.terms.now c.args.id (R c.in-R.a c.in-R.b c.in-R.c c.in-R.d) c.requires.valid c.in-R.ensures ring z
    (record { numerator = subst (λ (canon : Canon). IsElementFor ring (canon_polynomial canon) z) c.canon_r.ensures made; one = refl }))
    c.canonical-in-R.ensures.element

pub numerator-requires : goal.numerator-requires
numerator-requires t c =
    let below : c.in-Neg.e.0 < c.args.id.0 = c.requires.valid.children c.args.id.0 (Neg c.in-Neg.e) c.in-Neg.ensures in (
      omega (arith, below),
      (
        part_stored c.args.terms.now c.requires.valid c.args.id (Neg c.in-Neg.e) c.in-Neg.ensures c.in-Neg.e refl,
        (
          c.requires.valid,
          (
            part_fits c.args.terms.now c.args.id (Neg c.in-Neg.e) c.in-Neg.e c.requires.valid c.in-Neg.ensures c.requires.fits refl,
            node_linear c.args.terms.now c.args.id (Neg c.in-Neg.e) c.requires.valid c.in-Neg.ensures c.args.ring.now.vars c.requires.linear,
          ),
        ),
      ),
    )

pub opposite-requires : goal.opposite-requires
opposite-requires t c = c.in_ok-part-in-Neg.ensures.numerator.numerator.element_of

pub returns-in_ok-part-in-Neg-clause-numerator : goal.returns-in_ok-part-in-Neg-clause-numerator
returns-in_ok-part-in-Neg-clause-numerator t c =
    let ring = c.numerator.new.ring in
    IfOk-weaker c.opposite.result _ _
    (λ z made. numerator_at c.args.terms.now c.args.id (Neg c.in-Neg.e) c.requires.valid c.in-Neg.ensures ring z
    (numerator_opposite ring (tree_of c.args.terms.now c.in-Neg.e) c.in_ok-part-in-Neg.part z c.in_ok-part-in-Neg.ensures.numerator made))
    c.opposite.ensures

pub numerator-requires-in-Add : goal.numerator-requires-in-Add
numerator-requires-in-Add t c =
    let below : c.in-Add.e.0 < c.args.id.0 = (c.requires.valid.children c.args.id.0 (Add c.in-Add.e c.in-Add.f) c.in-Add.ensures).0 in (
      omega (arith, below),
      (
        part_stored c.args.terms.now c.requires.valid c.args.id (Add c.in-Add.e c.in-Add.f) c.in-Add.ensures c.in-Add.e (inl refl),
        (
          c.requires.valid,
          (
            part_fits c.args.terms.now c.args.id (Add c.in-Add.e c.in-Add.f) c.in-Add.e c.requires.valid c.in-Add.ensures c.requires.fits (inl refl),
            (node_linear c.args.terms.now c.args.id (Add c.in-Add.e c.in-Add.f) c.requires.valid c.in-Add.ensures c.args.ring.now.vars c.requires.linear).0,
          ),
        ),
      ),
    )

pub numerator-requires-in-Add-2 : goal.numerator-requires-in-Add-2
numerator-requires-in-Add-2 t c =
    let below : c.in-Add.f.0 < c.args.id.0 = (c.requires.valid.children c.args.id.0 (Add c.in-Add.e c.in-Add.f) c.in-Add.ensures).1 in (
      omega (arith, below),
      (
        part_stored c.args.terms.now c.requires.valid c.args.id (Add c.in-Add.e c.in-Add.f) c.in-Add.ensures c.in-Add.f (inr refl),
        (
          c.requires.valid,
          (
            part_fits c.args.terms.now c.args.id (Add c.in-Add.e c.in-Add.f) c.in-Add.f c.requires.valid c.in-Add.ensures c.requires.fits (inr refl),
            linear_kept c.args.ring.now c.numerator-in-Add.new.ring (tree_of c.args.terms.now c.in-Add.f) c.in_ok-left-in-Add.ensures.grows
                (node_linear c.args.terms.now c.args.id (Add c.in-Add.e c.in-Add.f) c.requires.valid c.in-Add.ensures c.args.ring.now.vars c.requires.linear).1,
          ),
        ),
      ),
    )

pub sum-requires-clause-left : goal.sum-requires-clause-left
sum-requires-clause-left t c =
    let nodes = c.args.terms.now in
    let ring = c.numerator-in-Add-2.new.ring in
    let right = c.in_ok-right-in-Add.ensures.numerator in
    let left = numerator_kept c.numerator-in-Add.new.ring ring (tree_of nodes c.in-Add.e) c.in_ok-left-in-Add.left
    c.in_ok-right-in-Add.ensures.grows c.in_ok-left-in-Add.ensures.numerator in
    left.numerator.element_of

pub sum-requires-clause-right : goal.sum-requires-clause-right
sum-requires-clause-right t c = c.in_ok-right-in-Add.ensures.numerator.numerator.element_of

pub sum-requires-clause-fits : goal.sum-requires-clause-fits
sum-requires-clause-fits t c =
    let nodes = c.args.terms.now in
    let ring = c.numerator-in-Add-2.new.ring in
    let right = c.in_ok-right-in-Add.ensures.numerator in
    let left = numerator_kept c.numerator-in-Add.new.ring ring (tree_of nodes c.in-Add.e) c.in_ok-left-in-Add.left
    c.in_ok-right-in-Add.ensures.grows c.in_ok-left-in-Add.ensures.numerator in
    sum_fits ring (tree_of nodes c.in-Add.e) (tree_of nodes c.in-Add.f) c.in_ok-left-in-Add.left c.in_ok-right-in-Add.right left right
    (node_fits c.args.terms.now c.args.id (Add c.in-Add.e c.in-Add.f) c.requires.valid c.in-Add.ensures c.requires.fits)

pub returns-in_ok-right-in-Add-clause-numerator : goal.returns-in_ok-right-in-Add-clause-numerator
returns-in_ok-right-in-Add-clause-numerator t c =
    let nodes = c.args.terms.now in
    let ring = c.numerator-in-Add-2.new.ring in
    let right = c.in_ok-right-in-Add.ensures.numerator in
    let left = numerator_kept c.numerator-in-Add.new.ring ring (tree_of nodes c.in-Add.e) c.in_ok-left-in-Add.left
    c.in_ok-right-in-Add.ensures.grows c.in_ok-left-in-Add.ensures.numerator in
    IfOk-weaker c.sum.result _ _
    (λ z made. numerator_at c.args.terms.now c.args.id (Add c.in-Add.e c.in-Add.f) c.requires.valid c.in-Add.ensures ring z
    (numerator_sum ring (tree_of nodes c.in-Add.e) (tree_of nodes c.in-Add.f) c.in_ok-left-in-Add.left c.in_ok-right-in-Add.right left right z made))
    c.sum.ensures

pub numerator-requires-in-Sub : goal.numerator-requires-in-Sub
numerator-requires-in-Sub t c =
    let below : c.in-Sub.e.0 < c.args.id.0 = (c.requires.valid.children c.args.id.0 (Sub c.in-Sub.e c.in-Sub.f) c.in-Sub.ensures).0 in (
      omega (arith, below),
      (
        part_stored c.args.terms.now c.requires.valid c.args.id (Sub c.in-Sub.e c.in-Sub.f) c.in-Sub.ensures c.in-Sub.e (inl refl),
        (
          c.requires.valid,
          (
            part_fits c.args.terms.now c.args.id (Sub c.in-Sub.e c.in-Sub.f) c.in-Sub.e c.requires.valid c.in-Sub.ensures c.requires.fits (inl refl),
            (node_linear c.args.terms.now c.args.id (Sub c.in-Sub.e c.in-Sub.f) c.requires.valid c.in-Sub.ensures c.args.ring.now.vars c.requires.linear).0,
          ),
        ),
      ),
    )

pub numerator-requires-in-Sub-2 : goal.numerator-requires-in-Sub-2
numerator-requires-in-Sub-2 t c =
    let below : c.in-Sub.f.0 < c.args.id.0 = (c.requires.valid.children c.args.id.0 (Sub c.in-Sub.e c.in-Sub.f) c.in-Sub.ensures).1 in (
      omega (arith, below),
      (
        part_stored c.args.terms.now c.requires.valid c.args.id (Sub c.in-Sub.e c.in-Sub.f) c.in-Sub.ensures c.in-Sub.f (inr refl),
        (
          c.requires.valid,
          (
            part_fits c.args.terms.now c.args.id (Sub c.in-Sub.e c.in-Sub.f) c.in-Sub.f c.requires.valid c.in-Sub.ensures c.requires.fits (inr refl),
            linear_kept c.args.ring.now c.numerator-in-Sub.new.ring (tree_of c.args.terms.now c.in-Sub.f) c.in_ok-left-in-Sub.ensures.grows
                (node_linear c.args.terms.now c.args.id (Sub c.in-Sub.e c.in-Sub.f) c.requires.valid c.in-Sub.ensures c.args.ring.now.vars c.requires.linear).1,
          ),
        ),
      ),
    )

pub difference-requires-clause-left : goal.difference-requires-clause-left
difference-requires-clause-left t c =
    let nodes = c.args.terms.now in
    let ring = c.numerator-in-Sub-2.new.ring in
    let right = c.in_ok-right-in-Sub.ensures.numerator in
    let left = numerator_kept c.numerator-in-Sub.new.ring ring (tree_of nodes c.in-Sub.e) c.in_ok-left-in-Sub.left
    c.in_ok-right-in-Sub.ensures.grows c.in_ok-left-in-Sub.ensures.numerator in
    left.numerator.element_of

pub difference-requires-clause-right : goal.difference-requires-clause-right
difference-requires-clause-right t c = c.in_ok-right-in-Sub.ensures.numerator.numerator.element_of

pub difference-requires-clause-fits : goal.difference-requires-clause-fits
difference-requires-clause-fits t c =
    let nodes = c.args.terms.now in
    let ring = c.numerator-in-Sub-2.new.ring in
    let right = c.in_ok-right-in-Sub.ensures.numerator in
    let left = numerator_kept c.numerator-in-Sub.new.ring ring (tree_of nodes c.in-Sub.e) c.in_ok-left-in-Sub.left
    c.in_ok-right-in-Sub.ensures.grows c.in_ok-left-in-Sub.ensures.numerator in
    difference_fits ring (tree_of nodes c.in-Sub.e) (tree_of nodes c.in-Sub.f) c.in_ok-left-in-Sub.left c.in_ok-right-in-Sub.right left right
    (node_fits c.args.terms.now c.args.id (Sub c.in-Sub.e c.in-Sub.f) c.requires.valid c.in-Sub.ensures c.requires.fits)

pub returns-in_ok-right-in-Sub-clause-numerator : goal.returns-in_ok-right-in-Sub-clause-numerator
returns-in_ok-right-in-Sub-clause-numerator t c =
    let nodes = c.args.terms.now in
    let ring = c.numerator-in-Sub-2.new.ring in
    let right = c.in_ok-right-in-Sub.ensures.numerator in
    let left = numerator_kept c.numerator-in-Sub.new.ring ring (tree_of nodes c.in-Sub.e) c.in_ok-left-in-Sub.left
    c.in_ok-right-in-Sub.ensures.grows c.in_ok-left-in-Sub.ensures.numerator in
    IfOk-weaker c.difference.result _ _
    (λ z made. numerator_at c.args.terms.now c.args.id (Sub c.in-Sub.e c.in-Sub.f) c.requires.valid c.in-Sub.ensures ring z
    (numerator_difference ring (tree_of nodes c.in-Sub.e) (tree_of nodes c.in-Sub.f) c.in_ok-left-in-Sub.left c.in_ok-right-in-Sub.right left right z made))
    c.difference.ensures

pub unreachable-requires : goal.unreachable-requires
unreachable-requires t c =
    node_linear c.args.terms.now c.args.id (Mul c.in-Mul.field-0 c.in-Mul.field-1) c.requires.valid c.in-Mul.ensures c.args.ring.now.vars c.requires.linear

pub unreachable-requires-in-Div : goal.unreachable-requires-in-Div
unreachable-requires-in-Div t c =
    node_linear c.args.terms.now c.args.id (Div c.in-Div.field-0 c.in-Div.field-1) c.requires.valid c.in-Div.ensures c.args.ring.now.vars c.requires.linear
