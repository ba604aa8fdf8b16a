use Rattle.std.proofs.Common.{sym, subst}
use Rattle.geo_conditions.specs.declared.problem.Problem.{Problem}
use Rattle.log_checker.specs.Inner.Lines.{IsNamedBy}
use Rattle.log_checker.proofs.ByText.{cut_goes_on}
use Rattle.log_checker.proofs.passing.step_passes.Goals as goal

pub returns-then-starts_with-clause-goes : goal.returns-then-starts_with-clause-goes
returns-then-starts_with-clause-goes c =
    cut_goes_on c.args.problem.now.steps c.args.bytes.now c.args.evidence.now c.args.poly.now (c.is_zero.ensures.0 c.if-is_zero.true) c.is_cut_of_zero.result
    (c.is_cut_of_zero.ensures c.args.problem.now.steps c.args.evidence.now.budget.left)

pub step_by_text-requires-clause-named : goal.step_by_text-requires-clause-named
step_by_text-requires-clause-named c = subst (λ (q : Problem). IsNamedBy q.steps c.args.poly.now) (sym c.problem.view_is) c.requires.named
