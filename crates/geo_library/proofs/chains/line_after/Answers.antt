use Rattle.std.proofs.Common.{◌+◌, Err, sym, ◌∙◌, ap, subst}
use Rattle.geo_base.specs.declared.budgets.Budget.{Budget}
use Rattle.geo_logs.specs.Ends.{IsNext, stops}
use Rattle.geo_logs.specs.Places.{in_chain}
use Rattle.geo_library.specs.Inner.Counting.{IsStopAt, TellsStop, error_of_stop}
use Rattle.geo_library.proofs.CountedChains.{stop_told}
use Rattle.geo_library.proofs.chains.line_after.Goals as goal

pub returns-in-Err-clause-err : goal.returns-in-Err-clause-err
returns-in-Err-clause-err c =
    let left = ap (λ (b : Budget). b.left) c.in_ok-count.ensures.kept in
    subst (TellsStop (IsStopAt c.args.steps.now (in_chain c.args.known.now c.args.now.now.budget.left c.args.last.now) (c.args.now.now.lines + 1))) (sym c.stopped.ensures)
    (subst (λ n. TellsStop (IsStopAt c.args.steps.now (in_chain c.args.known.now n c.args.last.now) (c.args.now.now.lines + 1)) (error_of_stop c.in-Err.error c.count.new.self.lines)) left
    (subst (λ n. TellsStop (IsStopAt c.args.steps.now (in_chain c.args.known.now c.count.new.self.budget.left c.args.last.now) n)
    (error_of_stop c.in-Err.error c.count.new.self.lines)) c.in_ok-count.ensures.counted
    (stop_told c.args.steps.now (in_chain c.args.known.now c.count.new.self.budget.left c.args.last.now) c.count.new.self.lines c.in-Err.error
    (λ e. let h = c.in-Err.ensures.spent (ap Err e) in (h.0, h.1.no_cut, h.1.next, h.2)) (λ which e. let h = c.in-Err.ensures.too_large which (ap Err e) in (h.0, h.1.no_cut, h.1.next, h.2))
    (λ e. c.in-Err.ensures.row (ap Err e)))))
