use Rattle.std.proofs.Common.{◌∙◌, [], ◌∷◌, ap, sym, subst}
use Rattle.fraction_poly.specs.TableRows.{HasPointsBelow}
use Rattle.geo_logs.specs.Logs.{only_variable}
use Rattle.geo_logs.specs.Places.{before_line, before_start}
use Rattle.geo_poly.specs.Polynomials.{Summands}
use Rattle.geo_poly.specs.PolynomialVariables.{AllVariables}
use Rattle.geo_terms.specs.Stores.{tree_of}
use Rattle.proof_log.specs.declared.log.Line.TheVariants.{Start}
use Rattle.geo_chain.specs.Parts.{chain_part, here_part, steps_part}
use Rattle.geo_chain.specs.Written.{Writes, state}
use Rattle.geo_logs.proofs.NamedPoints.{start_points}
use Rattle.geo_chain.proofs.Chaining.{at_header, at_start, past_start, works_chain}
use Rattle.geo_chain.proofs.Framing.{line_due, start_due}
use Rattle.geo_chain.proofs.Handing.{if_err}
use Rattle.geo_chain.proofs.Passing.{can_write_on, halts_on, unwritten_here, write_here, writes_more, writes_nothing}
use Rattle.geo_chain.proofs.chains.work_chain.Goals as goal

pub write-requires : goal.write-requires
write-requires g c =
    let e = tree_of c.args.terms.now.nodes c.args.task.now.term in
    let s = state c.args.log.now (g.K.Sink.held c.args.sink.now) (g.K.Sink.faults c.args.sink.now) in
    write_here c.args.frame c.args.steps.now
    (chain_part c.args.frame c.args.steps.now c.args.task.now.header c.args.known.now c.args.budget.now.left e)
    (before_line c.args.task.now.header) s s
    (at_header c.args.frame c.args.steps.now c.args.known.now c.args.task.now.header c.args.budget.now.left e s
    (writes_nothing s)) c.requires.writable c.args.log.now.within c.args.task.now.header
    (line_due c.args.frame c.args.steps.now c.args.task.now.header)

pub returns-in_err-write-clause-err : goal.returns-in_err-write-clause-err
returns-in_err-write-clause-err g c =
    let e = tree_of c.args.terms.now.nodes c.args.task.now.term in
    let s = state c.args.log.now (g.K.Sink.held c.args.sink.now) (g.K.Sink.faults c.args.sink.now) in
    if_err _ _ c.in_err-write.field-0.0 c.from_residual.ensures.1
    (halts_on c.args.frame c.args.steps.now
    (chain_part c.args.frame c.args.steps.now c.args.task.now.header c.args.known.now c.args.budget.now.left e)
    (here_part (before_line c.args.task.now.header)) s s _
    (at_header c.args.frame c.args.steps.now c.args.known.now c.args.task.now.header c.args.budget.now.left e s
    (writes_nothing s)) c.in_err-write.field-0.0
    (unwritten_here c.args.frame c.args.steps.now (before_line c.args.task.now.header) c.args.task.now.header s _
    (line_due c.args.frame c.args.steps.now c.args.task.now.header) c.args.log.now.within c.in_err-write.field-0.0
    c.in_err-write.ensures.err))

pub returns-in_err-first-clause-err : goal.returns-in_err-first-clause-err
returns-in_err-first-clause-err g c =
    let e = tree_of c.args.terms.now.nodes c.args.task.now.term in
    if_err _ _ c.in_err-first.field-0.0 c.from_residual-in_err-first.ensures.1
    (halts_on c.args.frame c.args.steps.now
    (chain_part c.args.frame c.args.steps.now c.args.task.now.header c.args.known.now c.args.budget.now.left e)
    (here_part (before_start c.args.budget.now.left e)) _ _ _
    (at_start c.args.frame c.args.steps.now c.args.known.now c.args.task.now.header c.args.budget.now.left e _ _ c.in_ok-write.ensures.ok)
    c.in_err-first.field-0.0 (c.in_err-first.ensures.err c.args.frame c.args.steps.now))

pub write_start-requires : goal.write_start-requires
write_start-requires g c =
    let e = tree_of c.args.terms.now.nodes c.args.task.now.term in
    write_here c.args.frame c.args.steps.now
    (chain_part c.args.frame c.args.steps.now c.args.task.now.header c.args.known.now c.args.budget.now.left e)
    (before_start c.args.budget.now.left e) _ _
    (at_start c.args.frame c.args.steps.now c.args.known.now c.args.task.now.header c.args.budget.now.left e _ _ c.in_ok-write.ensures.ok)
    c.requires.writable c.write.new.self.within (Start c.in_ok-first.first)
    (start_due c.args.frame c.args.steps.now c.args.budget.now.left e (Start c.in_ok-first.first)
    (ap (λ (q : Summands). Start q) c.in_ok-first.ensures.start) c.in_ok-first.ensures.started)

pub returns-in_err-first-2-clause-err : goal.returns-in_err-first-2-clause-err
returns-in_err-first-2-clause-err g c =
    let e = tree_of c.args.terms.now.nodes c.args.task.now.term in
    let s = state c.args.log.now (g.K.Sink.held c.args.sink.now) (g.K.Sink.faults c.args.sink.now) in
    let written = subst (λ k. Writes (c.args.task.now.header ∷ []) s (state c.write.new.self (g.K.Sink.held k) (g.K.Sink.faults k)))
    (sym c.in_ok-first.ensures.kept) c.in_ok-write.ensures.ok in
    if_err _ _ c.in_err-first-2.field-0.0 c.from_residual-in_err-first-2.ensures.1
    (halts_on c.args.frame c.args.steps.now
    (chain_part c.args.frame c.args.steps.now c.args.task.now.header c.args.known.now c.args.budget.now.left e)
    (here_part (before_start c.args.budget.now.left e)) s _ _
    (at_start c.args.frame c.args.steps.now c.args.known.now c.args.task.now.header c.args.budget.now.left e s _ written)
    c.in_err-first-2.field-0.0
    (unwritten_here c.args.frame c.args.steps.now (before_start c.args.budget.now.left e) (Start c.in_ok-first.first) _ _
    (start_due c.args.frame c.args.steps.now c.args.budget.now.left e (Start c.in_ok-first.first)
    (ap (λ (q : Summands). Start q) c.in_ok-first.ensures.start) c.in_ok-first.ensures.started)
    c.write.new.self.within c.in_err-first-2.field-0.0 c.in_err-first-2.ensures.err))

pub work_steps-requires-clause-points : goal.work_steps-requires-clause-points
work_steps-requires-clause-points g c =
    let e = tree_of c.args.terms.now.nodes c.args.task.now.term in
    subst (AllVariables (HasPointsBelow _)) (sym (c.in_ok-first-2.ensures.same ∙ c.in_ok-first.ensures.start))
    (start_points c.args.steps.now e c.requires.inside)

pub work_steps-requires-clause-writable : goal.work_steps-requires-clause-writable
work_steps-requires-clause-writable g c =
    let e = tree_of c.args.terms.now.nodes c.args.task.now.term in
    let s = state c.args.log.now (g.K.Sink.held c.args.sink.now) (g.K.Sink.faults c.args.sink.now) in
    let t = state c.write_start.new.log (g.K.Sink.held c.write_start.new.sink) (g.K.Sink.faults c.write_start.new.sink) in
    let header = subst (λ k. Writes (c.args.task.now.header ∷ []) s (state c.write.new.self (g.K.Sink.held k) (g.K.Sink.faults k)))
    (sym c.in_ok-first.ensures.kept) c.in_ok-write.ensures.ok in
    let both = writes_more (c.args.task.now.header ∷ []) (Start c.in_ok-first.first ∷ []) s _ t header c.in_ok-first-2.ensures.ok in
    let written = subst (λ (q : Summands). Writes (c.args.task.now.header ∷ Start q ∷ []) s t) (sym c.in_ok-first-2.ensures.same) both in
    can_write_on c.args.frame c.args.steps.now
    (chain_part c.args.frame c.args.steps.now c.args.task.now.header c.args.known.now c.args.budget.now.left e)
    (steps_part c.args.frame c.args.steps.now c.args.known.now c.first_polynomial.new.budget.left c.in_ok-first-2.first) s t
    (past_start c.args.frame c.args.steps.now c.args.known.now c.args.task.now.header c.args.budget.now.left e
    c.first_polynomial.new.budget.left c.in_ok-first-2.first s t c.in_ok-first.ensures.started c.in_ok-first.ensures.paid
    (c.in_ok-first-2.ensures.same ∙ c.in_ok-first.ensures.start) written) c.requires.writable

pub returns-in_err-end-clause-err : goal.returns-in_err-end-clause-err
returns-in_err-end-clause-err g c =
    let e = tree_of c.args.terms.now.nodes c.args.task.now.term in
    let s = state c.args.log.now (g.K.Sink.held c.args.sink.now) (g.K.Sink.faults c.args.sink.now) in
    let t = state c.write_start.new.log (g.K.Sink.held c.write_start.new.sink) (g.K.Sink.faults c.write_start.new.sink) in
    let header = subst (λ k. Writes (c.args.task.now.header ∷ []) s (state c.write.new.self (g.K.Sink.held k) (g.K.Sink.faults k)))
    (sym c.in_ok-first.ensures.kept) c.in_ok-write.ensures.ok in
    let both = writes_more (c.args.task.now.header ∷ []) (Start c.in_ok-first.first ∷ []) s _ t header c.in_ok-first-2.ensures.ok in
    let written = subst (λ (q : Summands). Writes (c.args.task.now.header ∷ Start q ∷ []) s t) (sym c.in_ok-first-2.ensures.same) both in
    if_err _ _ c.in_err-end.field-0.0 c.from_residual-in_err-end.ensures.1
    (halts_on c.args.frame c.args.steps.now
    (chain_part c.args.frame c.args.steps.now c.args.task.now.header c.args.known.now c.args.budget.now.left e)
    (steps_part c.args.frame c.args.steps.now c.args.known.now c.first_polynomial.new.budget.left c.in_ok-first-2.first) s t _
    (past_start c.args.frame c.args.steps.now c.args.known.now c.args.task.now.header c.args.budget.now.left e
    c.first_polynomial.new.budget.left c.in_ok-first-2.first s t c.in_ok-first.ensures.started c.in_ok-first.ensures.paid
    (c.in_ok-first-2.ensures.same ∙ c.in_ok-first.ensures.start) written) c.in_err-end.field-0.0 c.in_err-end.ensures.err)

pub returns-clause-ok : goal.returns-clause-ok
returns-clause-ok g c =
    let e = tree_of c.args.terms.now.nodes c.args.task.now.term in
    let s = state c.args.log.now (g.K.Sink.held c.args.sink.now) (g.K.Sink.faults c.args.sink.now) in
    let t = state c.write_start.new.log (g.K.Sink.held c.write_start.new.sink) (g.K.Sink.faults c.write_start.new.sink) in
    let header = subst (λ k. Writes (c.args.task.now.header ∷ []) s (state c.write.new.self (g.K.Sink.held k) (g.K.Sink.faults k)))
    (sym c.in_ok-first.ensures.kept) c.in_ok-write.ensures.ok in
    let both = writes_more (c.args.task.now.header ∷ []) (Start c.in_ok-first.first ∷ []) s _ t header c.in_ok-first-2.ensures.ok in
    let written = subst (λ (q : Summands). Writes (c.args.task.now.header ∷ Start q ∷ []) s t) (sym c.in_ok-first-2.ensures.same) both in
    works_chain c.args.frame c.args.steps.now c.args.known.now c.args.task.now.header c.args.budget.now.left e
    c.first_polynomial.new.budget.left c.in_ok-first-2.first c.sole_variable-variable.result _ _ s t _
    c.in_ok-first.ensures.started c.in_ok-first.ensures.paid (c.in_ok-first-2.ensures.same ∙ c.in_ok-first.ensures.start)
    (c.sole_variable-variable.ensures ∙ ap only_variable (sym c.in_ok-first-2.ensures.same)) written c.in_ok-end.ensures.ok
