use Rattle.std.proofs.Common.{◌≡◌, Option, arith, refl, subst, ◌∙◌}
use Rattle.std.specs.Prelude.{IfSome}
use Rattle.geo_poly.specs.Polynomials.{Summands}
use Rattle.geo_terms.specs.declared.nodes.Node.TheVariants.{Neg}
use Rattle.geo_terms.specs.Stores.{tree_of}
use Rattle.fraction_poly.specs.MultipliedOut.{multiplied_out}
use Rattle.fraction_poly.proofs.OwnCharges.{opposite_charge, own-le}
use Rattle.fraction_poly.proofs.Rooms.{part_fits}
use Rattle.fraction_poly.proofs.SmallTerms.{opposite_is, part_stored}
use Rattle.fraction_poly.proofs.multiplying.small_fraction.Goals as goal

pub leaf_fraction-requires-clause-stored : goal.leaf_fraction-requires-clause-stored
leaf_fraction-requires-clause-stored g c =
    part_stored c.args.terms.now c.requires.valid c.args.id (Neg c.in-Neg.e) c.in-Neg.ensures c.in-Neg.e refl

pub leaf_fraction-requires-clause-fits : goal.leaf_fraction-requires-clause-fits
leaf_fraction-requires-clause-fits g c =
    part_fits c.args.terms.now c.args.id (Neg c.in-Neg.e) c.in-Neg.e c.requires.valid c.in-Neg.ensures c.requires.fits refl

pub returns-in_ok-negation-in-Some-clause-fraction : goal.returns-in_ok-negation-in-Some-clause-fraction
returns-in_ok-negation-in-Some-clause-fraction g c =
    let nodes = c.args.terms.now in
    let whole = multiplied_out (tree_of nodes c.in-Neg.e) in
    let leaf : c.in-Some.leaf ≡ whole =
    subst (λ (o : Option (Summands × Summands)). IfSome o (λ f. f ≡ whole)) c.in-Some.is c.in_ok-leaf-in-Neg.ensures.fraction in
    c.in_ok-negation-in-Some.ensures
    ∙ opposite_is nodes c.requires.valid c.args.id c.in-Neg.e c.in-Neg.ensures c.in-Some.leaf leaf

pub returns-in_ok-negation-in-Some-clause-ticks : goal.returns-in_ok-negation-in-Some-clause-ticks
returns-in_ok-negation-in-Some-clause-ticks g c =
    omega (arith, c.in_ok-leaf-in-Neg.ensures.ticks, opposite_charge c.args.terms.now c.args.id c.in-Neg.e c.requires.valid c.in-Neg.ensures)

pub returns-in_err-negation-in-Some-clause-ticks : goal.returns-in_err-negation-in-Some-clause-ticks
returns-in_err-negation-in-Some-clause-ticks g c =
    omega (arith, c.in_ok-leaf-in-Neg.ensures.ticks, opposite_charge c.args.terms.now c.args.id c.in-Neg.e c.requires.valid c.in-Neg.ensures)

pub returns-in_err-leaf-in-Neg-clause-ticks : goal.returns-in_err-leaf-in-Neg-clause-ticks
returns-in_err-leaf-in-Neg-clause-ticks g c =
    omega (arith, c.in_err-leaf-in-Neg.ensures.ticks, opposite_charge c.args.terms.now c.args.id c.in-Neg.e c.requires.valid c.in-Neg.ensures)

pub returns-in_default-clause-ticks : goal.returns-in_default-clause-ticks
returns-in_default-clause-ticks g c = omega (arith, c.leaf_fraction-in_default.ensures.ticks, own-le (tree_of c.args.terms.now c.args.id))
