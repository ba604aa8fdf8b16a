use Rattle.std.proofs.Common.{◌<◌, ◌^◌, [], refl, ◌∙◌, arith}
use Rattle.geo_program.specs.Programs.{source_of}
use Rattle.geo_program.proofs.Propositions.{program_well_formed}
use Rattle.geo_lowering.specs.declared.version.Version.TheVariants.{Two}
use Rattle.log_checker.specs.Checkers.{subject_of}
use Rattle.log_checker.specs.Subjects.{source_lines}
use Rattle.log_checker.proofs.DueProblems.{about}
use Rattle.log_checker.proofs.LineFeeds.{program_one_line}
use Rattle.geo_chain.specs.declared.errors.ProveError.TheVariants.{NoMemory}
use Rattle.geo_chain.specs.declared.frame.Frame.TheVariants.{Full}
use Rattle.geo_chain.specs.Parts.{log_part}
use Rattle.geo_chain.specs.Tasks.{conditions_from}
use Rattle.geo_chain.specs.Written.{first_state, state}
use Rattle.geo_chain.proofs.Handing.{if_err}
use Rattle.geo_chain.proofs.Passing.{can_write_on, finishes_on, halts_on}
use Rattle.geo_chain.proofs.WholeLogs.{past_program}
use Rattle.geo_prover.proofs.Finishing.{can_write, concluded, halted, halted_among, left_of, nothing_written, ready}
use Rattle.geo_prover.proofs.proving.prove_all.Goals as goal

pub returns-in_err-problem-clause-err : goal.returns-in_err-problem-clause-err
returns-in_err-problem-clause-err g c =
    let s = first_state (g.K.Sink.held c.args.sink.now) (g.K.Sink.faults c.args.sink.now) in
    if_err _ _ NoMemory c.from_residual.ensures.1
    (nothing_written (source_of c.args.program.now) c.args.steps
    (record { well_formed = program_well_formed c.args.program.now; short = c.args.program.now.short }) s s refl refl)

pub returns-in_err-numbers-clause-err : goal.returns-in_err-numbers-clause-err
returns-in_err-numbers-clause-err g c =
    let s = first_state (g.K.Sink.held c.args.sink.now) (g.K.Sink.faults c.args.sink.now) in
    if_err _ _ NoMemory c.from_residual-in_err-numbers.ensures.1
    (nothing_written (source_of c.args.program.now) c.args.steps
    (record { well_formed = program_well_formed c.args.program.now; short = c.args.program.now.short }) s s refl refl)

pub returns-in_err-write_first_lines-clause-err : goal.returns-in_err-write_first_lines-clause-err
returns-in_err-write_first_lines-clause-err g c =
    let p = source_of c.args.program.now in
    let w = program_well_formed c.args.program.now in
    let small : c.args.steps < 2 ^ 127 = omega (arith, c.ranges.steps) in
    let s = state c.new-log.result (g.K.Sink.held c.args.sink.now) (g.K.Sink.faults c.args.sink.now) in
    let t = state c.write_first_lines.new.log (g.K.Sink.held c.write_first_lines.new.sink) (g.K.Sink.faults c.write_first_lines.new.sink) in
    let problem = c.in_ok-problem.problem in
    let subject = subject_of (2, source_lines p) problem in
    let own = about Two p problem c.in_ok-problem.ensures in
    if_err _ _ c.in_err-write_first_lines.field-0.0 c.from_residual-in_err-write_first_lines.ensures.1
    (halted_among p subject c.args.steps w small own refl s t c.new-log.ensures.lines c.new-log.ensures.size
    c.in_err-write_first_lines.field-0.0 (c.in_err-write_first_lines.ensures.err (program_one_line p w)))

pub work-requires-clause-ready : goal.work-requires-clause-ready
work-requires-clause-ready g c =
    ready (source_of c.args.program.now) c.in_ok-problem.problem (program_well_formed c.args.program.now) c.in_ok-problem.ensures

pub work-requires-clause-writable : goal.work-requires-clause-writable
work-requires-clause-writable g c =
    let p = source_of c.args.program.now in
    let w = program_well_formed c.args.program.now in
    let small : c.args.steps < 2 ^ 127 = omega (arith, c.ranges.steps) in
    let s = state c.new-log.result (g.K.Sink.held c.args.sink.now) (g.K.Sink.faults c.args.sink.now) in
    let t = state c.write_first_lines.new.log (g.K.Sink.held c.write_first_lines.new.sink) (g.K.Sink.faults c.write_first_lines.new.sink) in
    let problem = c.in_ok-problem.problem in
    let subject = subject_of (2, source_lines p) problem in
    let own = about Two p problem c.in_ok-problem.ensures in
    let whole = log_part Full subject c.args.steps in
    let first = conditions_from Full problem 0 [] [] c.args.steps in
    let passed = past_program subject c.args.steps s t (c.in_ok-write_first_lines.ensures.ok (program_one_line p w)) in
    can_write_on Full problem.steps whole first s t passed
    (can_write p subject c.args.steps w small own refl c.new-log.result.size c.new-log.ensures.size)

pub returns-in_err-verdict-clause-err : goal.returns-in_err-verdict-clause-err
returns-in_err-verdict-clause-err g c =
    let p = source_of c.args.program.now in
    let w = program_well_formed c.args.program.now in
    let small : c.args.steps < 2 ^ 127 = omega (arith, c.ranges.steps) in
    let s = state c.new-log.result (g.K.Sink.held c.args.sink.now) (g.K.Sink.faults c.args.sink.now) in
    let t = state c.write_first_lines.new.log (g.K.Sink.held c.write_first_lines.new.sink) (g.K.Sink.faults c.write_first_lines.new.sink) in
    let problem = c.in_ok-problem.problem in
    let subject = subject_of (2, source_lines p) problem in
    let own = about Two p problem c.in_ok-problem.ensures in
    let whole = log_part Full subject c.args.steps in
    let first = conditions_from Full problem 0 [] [] c.args.steps in
    let passed = past_program subject c.args.steps s t (c.in_ok-write_first_lines.ensures.ok (program_one_line p w)) in
    let u = state c.work.new.log (g.K.Sink.held c.work.new.sink) (g.K.Sink.faults c.work.new.sink) in
    if_err _ _ c.in_err-verdict.field-0.0 c.from_residual-in_err-verdict.ensures.1
    (halted p subject c.args.steps w small own refl s u c.new-log.ensures.lines c.new-log.ensures.size c.in_err-verdict.field-0.0
    (halts_on Full problem.steps whole first s t u passed c.in_err-verdict.field-0.0 c.in_err-verdict.ensures.err))

pub overflow_sub-result : goal.overflow_sub-result
overflow_sub-result g c =
    let p = source_of c.args.program.now in
    let w = program_well_formed c.args.program.now in
    let small : c.args.steps < 2 ^ 127 = omega (arith, c.ranges.steps) in
    let s = state c.new-log.result (g.K.Sink.held c.args.sink.now) (g.K.Sink.faults c.args.sink.now) in
    let t = state c.write_first_lines.new.log (g.K.Sink.held c.write_first_lines.new.sink) (g.K.Sink.faults c.write_first_lines.new.sink) in
    let problem = c.in_ok-problem.problem in
    let subject = subject_of (2, source_lines p) problem in
    let own = about Two p problem c.in_ok-problem.ensures in
    let whole = log_part Full subject c.args.steps in
    let first = conditions_from Full problem 0 [] [] c.args.steps in
    let passed = past_program subject c.args.steps s t (c.in_ok-write_first_lines.ensures.ok (program_one_line p w)) in
    let u = state c.work.new.log (g.K.Sink.held c.work.new.sink) (g.K.Sink.faults c.work.new.sink) in
    let all = finishes_on whole first s t u c.in_ok-verdict.verdict c.work.new.budget.left passed c.in_ok-verdict.ensures.ok in
    left_of p subject c.args.steps w small own refl s u c.new-log.ensures.lines c.new-log.ensures.size all.lines c.in_ok-verdict.verdict
    c.work.new.budget.left all.whole

pub returns-clause-ok : goal.returns-clause-ok
returns-clause-ok g c =
    let p = source_of c.args.program.now in
    let w = program_well_formed c.args.program.now in
    let small : c.args.steps < 2 ^ 127 = omega (arith, c.ranges.steps) in
    let s = state c.new-log.result (g.K.Sink.held c.args.sink.now) (g.K.Sink.faults c.args.sink.now) in
    let t = state c.write_first_lines.new.log (g.K.Sink.held c.write_first_lines.new.sink) (g.K.Sink.faults c.write_first_lines.new.sink) in
    let problem = c.in_ok-problem.problem in
    let subject = subject_of (2, source_lines p) problem in
    let own = about Two p problem c.in_ok-problem.ensures in
    let whole = log_part Full subject c.args.steps in
    let first = conditions_from Full problem 0 [] [] c.args.steps in
    let passed = past_program subject c.args.steps s t (c.in_ok-write_first_lines.ensures.ok (program_one_line p w)) in
    let u = state c.work.new.log (g.K.Sink.held c.work.new.sink) (g.K.Sink.faults c.work.new.sink) in
    let all = finishes_on whole first s t u c.in_ok-verdict.verdict c.work.new.budget.left passed c.in_ok-verdict.ensures.ok in
    concluded p subject c.args.steps w small own refl s u c.new-log.ensures.lines c.new-log.ensures.size _ c.work.new.budget.left all
    c.work.new.log.within refl refl

pub returns-clause-faults : goal.returns-clause-faults
returns-clause-faults g c =
    let p = source_of c.args.program.now in
    let first = c.in_ok-write_first_lines.ensures.ok (program_one_line p (program_well_formed c.args.program.now)) in
    c.in_ok-verdict.ensures.ok.written.faults ∙ first.faults
