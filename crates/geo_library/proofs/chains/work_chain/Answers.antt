use Rattle.std.proofs.Common.{◌≡◌, ◌+◌, length, sym, ◌∙◌, ap, subst, arith}
use Rattle.std.proofs.lemmas.Result.{IfErr-weaker, IfOk-weaker}
use Rattle.fraction_poly.specs.TableRows.{HasPointsBelow}
use Rattle.geo_base.specs.declared.budgets.Budget.{Budget}
use Rattle.geo_poly.specs.Polynomials.{Summands}
use Rattle.geo_poly.specs.PolynomialVariables.{AllVariables}
use Rattle.geo_terms.specs.Stores.{tree_of}
use Rattle.log_checker.proofs.PassedOn.{passed_on}
use Rattle.geo_library.specs.Inner.Counting.{AreStepsStopped, AreStepsWorked, IsChainHalted, IsChainWorked, TellsStop}
use Rattle.geo_logs.proofs.NamedPoints.{start_points}
use Rattle.geo_library.proofs.CountedChains.{chain_worked, stops_first, stops_later}
use Rattle.geo_library.proofs.chains.work_chain.Goals as goal

pub returns-in_err-first-clause-err : goal.returns-in_err-first-clause-err
returns-in_err-first-clause-err c =
    let e = tree_of c.args.steps.now.nodes c.args.term in
    passed_on c.from_residual-in_err-first.result c.in_err-first.field-0.0 (TellsStop (IsChainHalted c.args.steps.now c.args.known.now c.args.now.now.lines c.args.now.now.budget.left e))
    c.from_residual-in_err-first.ensures.1
    (stops_first c.args.steps.now c.args.known.now c.args.now.now.lines c.args.now.now.budget.left e c.count.new.self.lines c.count.new.self.budget.left c.in_ok-count.ensures.counted
    (ap (λ (b : Budget). b.left) c.in_ok-count.ensures.kept) c.in_err-first.field-0.0 c.in_err-first.ensures.err)

pub work_steps-requires-clause-points : goal.work_steps-requires-clause-points
work_steps-requires-clause-points c =
    subst (λ (q : Summands). AllVariables (HasPointsBelow (length c.args.steps.now.steps)) q) (sym c.in_ok-first.ensures.start)
    (start_points c.args.steps.now (tree_of c.args.steps.now.nodes c.args.term) c.requires.inside)

pub returns-clause-ok : goal.returns-clause-ok
returns-clause-ok c =
    let e = tree_of c.args.steps.now.nodes c.args.term in
    let a = c.in_ok-count.ensures.counted in let b = c.in_ok-first.ensures.counted in
    IfOk-weaker c.work_steps.result _ _
    (λ end h. chain_worked c.args.steps.now c.args.known.now c.args.now.now.lines c.args.now.now.budget.left e c.first_polynomial.new.now.lines c.count.new.self.budget.left
    c.first_polynomial.new.now.budget.left c.in_ok-first.first _ _ end (ap (λ (x : Budget). x.left) c.in_ok-count.ensures.kept) c.in_ok-first.ensures.started c.in_ok-first.ensures.paid
    c.in_ok-first.ensures.start (omega (arith, a, b)) h)
    c.work_steps.ensures.ok

pub returns-clause-err : goal.returns-clause-err
returns-clause-err c =
    let e = tree_of c.args.steps.now.nodes c.args.term in
    let a = c.in_ok-count.ensures.counted in let b = c.in_ok-first.ensures.counted in
    IfErr-weaker c.work_steps.result (TellsStop (AreStepsStopped c.args.steps.now c.args.known.now c.first_polynomial.new.now.lines c.first_polynomial.new.now.budget.left c.in_ok-first.first))
    (TellsStop (IsChainHalted c.args.steps.now c.args.known.now c.args.now.now.lines c.args.now.now.budget.left e))
    (λ error h. stops_later c.args.steps.now c.args.known.now c.args.now.now.lines c.args.now.now.budget.left e c.first_polynomial.new.now.lines c.count.new.self.budget.left
    c.first_polynomial.new.now.budget.left c.in_ok-first.first (ap (λ (x : Budget). x.left) c.in_ok-count.ensures.kept) c.in_ok-first.ensures.started c.in_ok-first.ensures.paid
    c.in_ok-first.ensures.start (omega (arith, a, b)) error h)
    c.work_steps.ensures.err
