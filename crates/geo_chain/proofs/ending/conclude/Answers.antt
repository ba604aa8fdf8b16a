use Rattle.std.proofs.Common.{[], ◌∷◌, subst}
use Rattle.std.proofs.lemmas.Result.{IfErr-weaker, on_ok_weaker}
use Rattle.geo_logs.specs.Places.{before_line, before_sample}
use Rattle.proof_log.specs.declared.log.Line.TheVariants.{Sample, Verdict as VerdictLine}
use Rattle.geo_chain.specs.Parts.{end_part, here_part}
use Rattle.geo_chain.specs.Written.{IsUnwritten, Writes, state}
use Rattle.geo_chain.proofs.Framing.{line_due, sample_due}
use Rattle.geo_chain.proofs.Handing.{if_err}
use Rattle.geo_chain.proofs.Listing.{at_sample, at_verdict, concludes}
use Rattle.geo_chain.proofs.Passing.{halts_on, unwritten_here, write_here}
use Rattle.geo_chain.proofs.ending.conclude.Goals as goal

pub returns-in_err-values-clause-err : goal.returns-in_err-values-clause-err
returns-in_err-values-clause-err g c =
    let s = state c.args.log.now (g.K.Sink.held c.args.sink.now) (g.K.Sink.faults c.args.sink.now) in
    if_err _ _ c.in_err-values.field-0.0 c.from_residual.ensures.1
    (halts_on c.args.frame c.args.steps.now (end_part c.args.frame c.args.steps.now c.args.ends.now c.args.verdict c.args.budget.now.left)
    (here_part (before_sample c.args.ends.now c.args.budget.now.left)) s s _
    (at_sample c.args.frame c.args.steps.now c.args.ends.now c.args.verdict c.args.budget.now.left s) c.in_err-values.field-0.0
    c.in_err-values.ensures.err)

pub write-requires : goal.write-requires
write-requires g c =
    let s = state c.args.log.now (g.K.Sink.held c.args.sink.now) (g.K.Sink.faults c.args.sink.now) in
    write_here c.args.frame c.args.steps.now (end_part c.args.frame c.args.steps.now c.args.ends.now c.args.verdict c.args.budget.now.left)
    (before_sample c.args.ends.now c.args.budget.now.left) s s
    (at_sample c.args.frame c.args.steps.now c.args.ends.now c.args.verdict c.args.budget.now.left s) c.requires.writable
    c.args.log.now.within (Sample c.in_ok-values.values)
    (sample_due c.args.frame c.args.steps.now c.args.ends.now c.args.budget.now.left c.in_ok-values.values c.find_sample.new.budget.left
    c.in_ok-values.ensures.least)

pub returns-in_err-write-clause-err : goal.returns-in_err-write-clause-err
returns-in_err-write-clause-err g c =
    let s = state c.args.log.now (g.K.Sink.held c.args.sink.now) (g.K.Sink.faults c.args.sink.now) in
    let t = state c.write.new.self (g.K.Sink.held c.write.new.sink) (g.K.Sink.faults c.write.new.sink) in
    let cause = subst (λ k. IsUnwritten (Sample c.in_ok-values.values)
    (state c.args.log.now (g.K.Sink.held k)
    (g.K.Sink.faults k)) t c.in_err-write.field-0.0) c.in_ok-values.ensures.kept c.in_err-write.ensures.err in
    if_err _ _ c.in_err-write.field-0.0 c.from_residual-in_err-write.ensures.1
    (halts_on c.args.frame c.args.steps.now (end_part c.args.frame c.args.steps.now c.args.ends.now c.args.verdict c.args.budget.now.left)
    (here_part (before_sample c.args.ends.now c.args.budget.now.left)) s s t
    (at_sample c.args.frame c.args.steps.now c.args.ends.now c.args.verdict c.args.budget.now.left s) c.in_err-write.field-0.0
    (unwritten_here c.args.frame c.args.steps.now (before_sample c.args.ends.now c.args.budget.now.left) (Sample c.in_ok-values.values) s t
    (sample_due c.args.frame c.args.steps.now c.args.ends.now c.args.budget.now.left c.in_ok-values.values c.find_sample.new.budget.left
    c.in_ok-values.ensures.least) c.args.log.now.within c.in_err-write.field-0.0 cause))

pub returns-clause-ok : goal.returns-clause-ok
returns-clause-ok g c =
    let s = state c.args.log.now (g.K.Sink.held c.args.sink.now) (g.K.Sink.faults c.args.sink.now) in
    let t = state c.write.new.self (g.K.Sink.held c.write.new.sink) (g.K.Sink.faults c.write.new.sink) in
    let u = state c.write-2.new.self (g.K.Sink.held c.write-2.new.sink) (g.K.Sink.faults c.write-2.new.sink) in
    let written = subst (λ k. Writes (Sample c.in_ok-values.values ∷ [])
    (state c.args.log.now (g.K.Sink.held k) (g.K.Sink.faults k)) t) c.in_ok-values.ensures.kept c.in_ok-write.ensures.ok in
    on_ok_weaker c.write-2.result
    (λ w. concludes c.args.frame c.args.steps.now c.args.ends.now c.args.verdict c.args.budget.now.left c.in_ok-values.values
    c.find_sample.new.budget.left c.in_ok-values.ensures.least s t written u w)
    c.write-2.ensures.ok

pub returns-clause-err : goal.returns-clause-err
returns-clause-err g c =
    let s = state c.args.log.now (g.K.Sink.held c.args.sink.now) (g.K.Sink.faults c.args.sink.now) in
    let t = state c.write.new.self (g.K.Sink.held c.write.new.sink) (g.K.Sink.faults c.write.new.sink) in
    let u = state c.write-2.new.self (g.K.Sink.held c.write-2.new.sink) (g.K.Sink.faults c.write-2.new.sink) in
    let written = subst (λ k. Writes (Sample c.in_ok-values.values ∷ [])
    (state c.args.log.now (g.K.Sink.held k) (g.K.Sink.faults k)) t) c.in_ok-values.ensures.kept c.in_ok-write.ensures.ok in
    IfErr-weaker c.write-2.result _ _
    (λ e h. halts_on c.args.frame c.args.steps.now
    (end_part c.args.frame c.args.steps.now c.args.ends.now c.args.verdict c.args.budget.now.left)
    (here_part (before_line (VerdictLine c.args.verdict))) s t u
    (at_verdict c.args.frame c.args.steps.now c.args.ends.now c.args.verdict c.args.budget.now.left c.in_ok-values.values
    c.find_sample.new.budget.left c.in_ok-values.ensures.least s t written) e
    (unwritten_here c.args.frame c.args.steps.now (before_line (VerdictLine c.args.verdict)) (VerdictLine c.args.verdict) t u
    (line_due c.args.frame c.args.steps.now (VerdictLine c.args.verdict)) c.write.new.self.within e h))
    c.write-2.ensures.err
