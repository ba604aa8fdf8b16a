use Rattle.std.proofs.Common.{ap, sym, subst, ◌∙◌, arith}
use Rattle.fraction_poly.specs.Measures.{HasRoom, numbers_of}
use Rattle.fraction_poly.specs.MultipliedOut.{multiplied_out}
use Rattle.geo_terms.specs.Stores.{Store, tree_of}
use Rattle.elim_apply.proofs.starting.paid_numerator.Goals as goal

pub multiply_out-requires-clause-room : goal.multiply_out-requires-clause-room
multiply_out-requires-clause-room g c =
    subst (λ (nodes : Store). HasRoom (tree_of nodes c.args.id)) (sym c.look.ensures) c.requires.started.room

pub returns-clause-numerator : goal.returns-clause-numerator
returns-clause-numerator g c =
    ap (λ x. x.0) c.in_ok-numerator.ensures.fraction ∙ ap (λ (nodes : Store). (multiplied_out (tree_of nodes c.args.id)).0) c.look.ensures

pub returns-clause-ticks : goal.returns-clause-ticks
returns-clause-ticks g c =
    let charge = ap (λ (nodes : Store). (numbers_of (tree_of nodes c.args.id)).charge) c.look.ensures in
    omega (arith, charge, c.in_ok-numerator.ensures.ticks)

pub returns-in_err-numerator-clause-ticks : goal.returns-in_err-numerator-clause-ticks
returns-in_err-numerator-clause-ticks g c =
    let charge = ap (λ (nodes : Store). (numbers_of (tree_of nodes c.args.id)).charge) c.look.ensures in
    omega (arith, charge, c.in_err-numerator.ensures.ticks)
