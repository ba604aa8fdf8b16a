use Rattle.std.proofs.Common.{ℕ, arith}
use Rattle.std.proofs.lemmas.Result.{on_ok_weaker}
use Rattle.fraction_poly.specs.Measures.{HasRoom}
use Rattle.geo_logs.specs.Starts.{start_charge, start_degree, start_weight}
use Rattle.geo_terms.specs.Stores.{tree_of}
use Rattle.geo_terms.specs.Trees.{Tree}
use Rattle.elim_apply.specs.Inner.Sizes.{IsLineWithin, IsSizeOf}
use Rattle.elim_apply.proofs.starting.pay_start.Goals as goal

room : (left : ℕ) (e : Tree) → IsLineWithin left (start_charge e) (start_weight e) (start_degree e) → HasRoom e
room left e h = record {
  numerator_weight = omega (arith, h.weight_fits);
  denominator_weight = omega (arith, h.weight_fits);
  numerator_degree = omega (arith, h.degree_fits);
  denominator_degree = omega (arith, h.degree_fits);
}

pub returns-clause-started : goal.returns-clause-started
returns-clause-started c =
    let e = tree_of c.args.steps.now.nodes c.args.id in
    let size : IsSizeOf c.size_of_start.result (start_charge e) (start_weight e) (start_degree e) = c.size_of_start.ensures e c.requires in
    on_ok_weaker c.spend.result (λ h. let within = (h (start_charge e) (start_weight e) (start_degree e) size).0 in
    record { paid = within.paid; room = room c.args.budget.now.left e within }) c.spend.ensures.ok

pub returns-clause-paid : goal.returns-clause-paid
returns-clause-paid c =
    let e = tree_of c.args.steps.now.nodes c.args.id in
    let size : IsSizeOf c.size_of_start.result (start_charge e) (start_weight e) (start_degree e) = c.size_of_start.ensures e c.requires in
    on_ok_weaker c.spend.result (λ h. (h (start_charge e) (start_weight e) (start_degree e) size).1) c.spend.ensures.ok

pub returns-clause-spent : goal.returns-clause-spent
returns-clause-spent c = λ h.
    let e = tree_of c.args.steps.now.nodes c.args.id in
    let size : IsSizeOf c.size_of_start.result (start_charge e) (start_weight e) (start_degree e) = c.size_of_start.ensures e c.requires in
    let told = c.spend.ensures.spent h in (told.1 (start_charge e) (start_weight e) (start_degree e) size, told.0)

pub returns-clause-too_large : goal.returns-clause-too_large
returns-clause-too_large c = λ which h.
    let e = tree_of c.args.steps.now.nodes c.args.id in
    let size : IsSizeOf c.size_of_start.result (start_charge e) (start_weight e) (start_degree e) = c.size_of_start.ensures e c.requires in
    c.spend.ensures.too_large which h (start_charge e) (start_weight e) (start_degree e) size
