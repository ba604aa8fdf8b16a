use Rattle.std.proofs.Common.{sym, subst}
use Rattle.geo_logs.specs.Places.{in_chain}
use Rattle.geo_chain.specs.Parts.{here_part, steps_part}
use Rattle.geo_chain.specs.Written.{state}
use Rattle.geo_chain.proofs.KeptPoints.{line_points}
use Rattle.geo_chain.proofs.Chaining.{IsUnderWay, begins, ends, goes_on, line_comes, stands_at}
use Rattle.geo_chain.proofs.Handing.{if_err}
use Rattle.geo_chain.proofs.Passing.{halts_on, unwritten_here, write_here, writes_nothing}
use Rattle.geo_chain.proofs.chains.work_steps.Goals as goal

pub returns-in_err-line-clause-err : goal.returns-in_err-line-clause-err
returns-in_err-line-clause-err g c =
    let place = in_chain c.args.known.now c.loop-last.budget.left c.loop-last.last in
    if_err _ _ c.in_err-line.field-0.0 c.from_residual.ensures.1
    (halts_on c.args.frame c.args.steps.now (steps_part c.args.frame c.args.steps.now c.args.known.now c.args.budget.now.left c.args.first)
    (here_part place) _ _ _
    (stands_at c.args.frame c.args.steps.now c.args.known.now c.args.budget.now.left c.args.first c.loop-last.budget.left c.loop-last.last _
    _ c.loop-last.invariant.way) c.in_err-line.field-0.0 c.in_err-line.ensures.err)

pub write-requires : goal.write-requires
write-requires g c =
    let place = in_chain c.args.known.now c.loop-last.budget.left c.loop-last.last in
    write_here c.args.frame c.args.steps.now
    (steps_part c.args.frame c.args.steps.now c.args.known.now c.args.budget.now.left c.args.first) place _ _
    (stands_at c.args.frame c.args.steps.now c.args.known.now c.args.budget.now.left c.args.first c.loop-last.budget.left c.loop-last.last _
    _ c.loop-last.invariant.way) c.requires.writable c.loop-last.log.within
    c.in_ok-line.line
    (line_comes c.args.frame c.args.steps.now c.args.known.now c.loop-last.budget.left c.loop-last.last c.in_ok-line.line _
    c.in_ok-line.ensures.line)

pub returns-in_err-write-clause-err : goal.returns-in_err-write-clause-err
returns-in_err-write-clause-err g c =
    let place = in_chain c.args.known.now c.loop-last.budget.left c.loop-last.last in
    let s = state c.args.log.now (g.K.Sink.held c.args.sink.now) (g.K.Sink.faults c.args.sink.now) in
    let way = subst
    (λ k. IsUnderWay c.args.frame c.args.steps.now c.args.known.now c.args.budget.now.left c.args.first c.loop-last.budget.left
    c.loop-last.last s (state c.loop-last.log (g.K.Sink.held k) (g.K.Sink.faults k)))
    (sym c.in_ok-line.ensures.kept) c.loop-last.invariant.way in
    if_err _ _ c.in_err-write.field-0.0 c.from_residual-in_err-write.ensures.1
    (halts_on c.args.frame c.args.steps.now (steps_part c.args.frame c.args.steps.now c.args.known.now c.args.budget.now.left c.args.first)
    (here_part place) s _ _
    (stands_at c.args.frame c.args.steps.now c.args.known.now c.args.budget.now.left c.args.first c.loop-last.budget.left c.loop-last.last s
    _ way) c.in_err-write.field-0.0
    (unwritten_here c.args.frame c.args.steps.now place c.in_ok-line.line _ _
    (line_comes c.args.frame c.args.steps.now c.args.known.now c.loop-last.budget.left c.loop-last.last c.in_ok-line.line _
    c.in_ok-line.ensures.line)
    c.loop-last.log.within c.in_err-write.field-0.0 c.in_err-write.ensures.err))

pub loop-last-preserved : goal.loop-last-preserved
loop-last-preserved g c =
    let s = state c.args.log.now (g.K.Sink.held c.args.sink.now) (g.K.Sink.faults c.args.sink.now) in
    let way = subst
    (λ k. IsUnderWay c.args.frame c.args.steps.now c.args.known.now c.args.budget.now.left c.args.first c.loop-last.budget.left
    c.loop-last.last s (state c.loop-last.log (g.K.Sink.held k) (g.K.Sink.faults k)))
    (sym c.in_ok-line.ensures.kept) c.loop-last.invariant.way in
    record {
      way = goes_on c.args.frame c.args.steps.now c.args.known.now c.args.budget.now.left c.args.first c.loop-last.budget.left
          c.loop-last.last c.in_ok-line.line c.line_after.new.budget.left c.in-Some.poly s _ _ way
          c.in_ok-line.ensures.line (sym c.in-Some.ensures) c.in_ok-write.ensures.ok;
      points = line_points _ c.in_ok-line.line c.in-Some.poly (sym c.in-Some.ensures) c.in_ok-line.ensures.points;
      numbers = c.line_after.ensures.numbers;
    }

pub returns-in-None-clause-ok : goal.returns-in-None-clause-ok
returns-in-None-clause-ok g c =
    let s = state c.args.log.now (g.K.Sink.held c.args.sink.now) (g.K.Sink.faults c.args.sink.now) in
    let way = subst
    (λ k. IsUnderWay c.args.frame c.args.steps.now c.args.known.now c.args.budget.now.left c.args.first c.loop-last.budget.left
    c.loop-last.last s (state c.loop-last.log (g.K.Sink.held k) (g.K.Sink.faults k)))
    (sym c.in_ok-line.ensures.kept) c.loop-last.invariant.way in
    ends c.args.frame c.args.steps.now c.args.known.now c.args.budget.now.left c.args.first c.loop-last.budget.left c.loop-last.last
    c.in_ok-line.line c.line_after.new.budget.left s _ _ way
    c.in_ok-line.ensures.line (sym c.in-None.ensures) c.in_ok-write.ensures.ok

pub loop-last-init : goal.loop-last-init
loop-last-init g c =
    let s = state c.args.log.now (g.K.Sink.held c.args.sink.now) (g.K.Sink.faults c.args.sink.now) in
    record {
      way = begins c.args.frame c.args.steps.now c.args.known.now c.args.budget.now.left c.args.first s (writes_nothing s);
      points = c.requires.points;
      numbers = c.requires.numbers;
    }
