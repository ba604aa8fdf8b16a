use Rattle.std.proofs.Common.{[], sym, subst}
use Rattle.std.proofs.lemmas.Result.{IfErr-weaker, IfOk-weaker}
use Rattle.geo_logs.specs.Places.{before_line}
use Rattle.proof_log.specs.declared.log.Line.TheVariants.{Verdict as VerdictLine}
use Rattle.proof_log.specs.declared.log.Verdict.{Verdict}
use Rattle.proof_log.specs.declared.log.Verdict.TheVariants.{Impossible}
use Rattle.geo_chain.specs.Halting.{Finishes, Halts, IsImpossibleAt, Passes}
use Rattle.geo_chain.specs.Parts.{here_part, items_of}
use Rattle.geo_chain.specs.Tasks.{conditions_from, goals_from}
use Rattle.geo_chain.specs.Written.{state}
use Rattle.geo_chain.proofs.Framing.{line_due}
use Rattle.geo_chain.proofs.Handing.{if_err}
use Rattle.geo_chain.proofs.Listing.{at_impossible, at_none, at_nothing, at_some, ends_impossible}
use Rattle.geo_chain.proofs.Passing.{can_write_on, finishes_on, halts_on, unwritten_here, write_here}
use Rattle.geo_chain.proofs.working.work.Goals as goal

pub write_impossible-requires : goal.write_impossible-requires
write_impossible-requires g c =
    let s = state c.args.log.now (g.K.Sink.held c.args.sink.now) (g.K.Sink.faults c.args.sink.now) in
    let t = state c.work_conditions.new.log (g.K.Sink.held c.work_conditions.new.sink) (g.K.Sink.faults c.work_conditions.new.sink) in
    let p = c.args.problem.now in
    let k = c.in-Some.k in
    let left = c.work_conditions.new.budget.left in
    let first = conditions_from c.args.frame p 0 [] [] c.args.budget.now.left in
    let found = at_nothing
    (λ part. IsImpossibleAt part left s t k) c.args.frame p c.new-findings.result.known c.new-findings.result.ends
    c.args.budget.now.left c.new-findings.ensures.known c.new-findings.ensures.ends
    (at_some _ c.in_ok-k.field-0 k c.in-Some.is (c.in_ok-k.ensures.impossible (items_of p.steps.nodes p.goals))) in
    write_here c.args.frame p.steps first (before_line (VerdictLine (Impossible k))) s t
    (at_impossible first s t left k found) c.requires.writable c.work_conditions.new.log.within (VerdictLine (Impossible k))
    (line_due c.args.frame p.steps (VerdictLine (Impossible k)))

pub returns-in-Some-clause-ok : goal.returns-in-Some-clause-ok
returns-in-Some-clause-ok g c =
    let s = state c.args.log.now (g.K.Sink.held c.args.sink.now) (g.K.Sink.faults c.args.sink.now) in
    let t = state c.work_conditions.new.log (g.K.Sink.held c.work_conditions.new.sink) (g.K.Sink.faults c.work_conditions.new.sink) in
    let u = state c.write_impossible.new.log (g.K.Sink.held c.write_impossible.new.sink) (g.K.Sink.faults c.write_impossible.new.sink) in
    let p = c.args.problem.now in
    let k = c.in-Some.k in
    let left = c.work_conditions.new.budget.left in
    let first = conditions_from c.args.frame p 0 [] [] c.args.budget.now.left in
    let found = at_nothing
    (λ part. IsImpossibleAt part left s t k) c.args.frame p c.new-findings.result.known c.new-findings.result.ends
    c.args.budget.now.left c.new-findings.ensures.known c.new-findings.ensures.ends
    (at_some _ c.in_ok-k.field-0 k c.in-Some.is (c.in_ok-k.ensures.impossible (items_of p.steps.nodes p.goals))) in
    IfOk-weaker c.write_impossible.result _ _
    (λ verdict h. subst (λ (v : Verdict). Finishes first s u v left) (sym h.0) (ends_impossible first s t u left k found h.1))
    c.write_impossible.ensures.ok

pub returns-in-Some-clause-err : goal.returns-in-Some-clause-err
returns-in-Some-clause-err g c =
    let s = state c.args.log.now (g.K.Sink.held c.args.sink.now) (g.K.Sink.faults c.args.sink.now) in
    let t = state c.work_conditions.new.log (g.K.Sink.held c.work_conditions.new.sink) (g.K.Sink.faults c.work_conditions.new.sink) in
    let u = state c.write_impossible.new.log (g.K.Sink.held c.write_impossible.new.sink) (g.K.Sink.faults c.write_impossible.new.sink) in
    let p = c.args.problem.now in
    let k = c.in-Some.k in
    let left = c.work_conditions.new.budget.left in
    let first = conditions_from c.args.frame p 0 [] [] c.args.budget.now.left in
    let found = at_nothing
    (λ part. IsImpossibleAt part left s t k) c.args.frame p c.new-findings.result.known c.new-findings.result.ends
    c.args.budget.now.left c.new-findings.ensures.known c.new-findings.ensures.ends
    (at_some _ c.in_ok-k.field-0 k c.in-Some.is (c.in_ok-k.ensures.impossible (items_of p.steps.nodes p.goals))) in
    IfErr-weaker c.write_impossible.result _ _
    (λ e h. halts_on c.args.frame p.steps first (here_part (before_line (VerdictLine (Impossible k)))) s t u
    (at_impossible first s t left k found) e
    (unwritten_here c.args.frame p.steps (before_line (VerdictLine (Impossible k))) (VerdictLine (Impossible k)) t u
    (line_due c.args.frame p.steps (VerdictLine (Impossible k))) c.work_conditions.new.log.within e h))
    c.write_impossible.ensures.err

pub work_rest-requires-clause-writable : goal.work_rest-requires-clause-writable
work_rest-requires-clause-writable g c =
    let s = state c.args.log.now (g.K.Sink.held c.args.sink.now) (g.K.Sink.faults c.args.sink.now) in
    let t = state c.work_conditions.new.log (g.K.Sink.held c.work_conditions.new.sink) (g.K.Sink.faults c.work_conditions.new.sink) in
    let p = c.args.problem.now in
    let first = conditions_from c.args.frame p 0 [] [] c.args.budget.now.left in
    let goals = goals_from c.args.frame p.steps p.steps.nodes p.goals 0 c.work_conditions.new.findings.known
    c.work_conditions.new.findings.ends c.work_conditions.new.budget.left in
    let passed = at_nothing
    (λ part. Passes part goals s t) c.args.frame p c.new-findings.result.known c.new-findings.result.ends c.args.budget.now.left
    c.new-findings.ensures.known c.new-findings.ensures.ends
    (at_none _ c.in_ok-k.field-0 c.in_default.not-Some (c.in_ok-k.ensures.met (items_of p.steps.nodes p.goals))) in
    can_write_on c.args.frame p.steps first goals s t passed c.requires.writable

pub returns-clause-ok : goal.returns-clause-ok
returns-clause-ok g c =
    let s = state c.args.log.now (g.K.Sink.held c.args.sink.now) (g.K.Sink.faults c.args.sink.now) in
    let t = state c.work_conditions.new.log (g.K.Sink.held c.work_conditions.new.sink) (g.K.Sink.faults c.work_conditions.new.sink) in
    let u = state c.work_rest.new.log (g.K.Sink.held c.work_rest.new.sink) (g.K.Sink.faults c.work_rest.new.sink) in
    let p = c.args.problem.now in
    let first = conditions_from c.args.frame p 0 [] [] c.args.budget.now.left in
    let goals = goals_from c.args.frame p.steps p.steps.nodes p.goals 0 c.work_conditions.new.findings.known
    c.work_conditions.new.findings.ends c.work_conditions.new.budget.left in
    let passed = at_nothing
    (λ part. Passes part goals s t) c.args.frame p c.new-findings.result.known c.new-findings.result.ends c.args.budget.now.left
    c.new-findings.ensures.known c.new-findings.ensures.ends
    (at_none _ c.in_ok-k.field-0 c.in_default.not-Some (c.in_ok-k.ensures.met (items_of p.steps.nodes p.goals))) in
    IfOk-weaker c.work_rest.result _ _
    (λ verdict h. finishes_on first goals s t u verdict c.work_rest.new.budget.left passed h) c.work_rest.ensures.ok

pub returns-clause-err : goal.returns-clause-err
returns-clause-err g c =
    let s = state c.args.log.now (g.K.Sink.held c.args.sink.now) (g.K.Sink.faults c.args.sink.now) in
    let t = state c.work_conditions.new.log (g.K.Sink.held c.work_conditions.new.sink) (g.K.Sink.faults c.work_conditions.new.sink) in
    let u = state c.work_rest.new.log (g.K.Sink.held c.work_rest.new.sink) (g.K.Sink.faults c.work_rest.new.sink) in
    let p = c.args.problem.now in
    let first = conditions_from c.args.frame p 0 [] [] c.args.budget.now.left in
    let goals = goals_from c.args.frame p.steps p.steps.nodes p.goals 0 c.work_conditions.new.findings.known
    c.work_conditions.new.findings.ends c.work_conditions.new.budget.left in
    let passed = at_nothing
    (λ part. Passes part goals s t) c.args.frame p c.new-findings.result.known c.new-findings.result.ends c.args.budget.now.left
    c.new-findings.ensures.known c.new-findings.ensures.ends
    (at_none _ c.in_ok-k.field-0 c.in_default.not-Some (c.in_ok-k.ensures.met (items_of p.steps.nodes p.goals))) in
    IfErr-weaker c.work_rest.result _ _ (λ e h. halts_on c.args.frame p.steps first goals s t u passed e h) c.work_rest.ensures.err

pub returns-in_err-k-clause-err : goal.returns-in_err-k-clause-err
returns-in_err-k-clause-err g c =
    let s = state c.args.log.now (g.K.Sink.held c.args.sink.now) (g.K.Sink.faults c.args.sink.now) in
    let t = state c.work_conditions.new.log (g.K.Sink.held c.work_conditions.new.sink) (g.K.Sink.faults c.work_conditions.new.sink) in
    let p = c.args.problem.now in
    let e = c.in_err-k.field-0.0 in
    if_err _ _ e c.from_residual.ensures.1
    (at_nothing
    (λ part. Halts c.args.frame p.steps part s t e) c.args.frame p c.new-findings.result.known c.new-findings.result.ends
    c.args.budget.now.left c.new-findings.ensures.known c.new-findings.ensures.ends
    (c.in_err-k.ensures.err (items_of p.steps.nodes p.goals)))
