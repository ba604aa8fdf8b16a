use Rattle.std.proofs.Common.{◌+◌, ◌<◌, ◌^◌, Some, [], subst, arith}
use Rattle.geo_logs.specs.Ends.{text_length}
use Rattle.geo_program.specs.Programs.{source_of}
use Rattle.geo_program.proofs.Propositions.{program_well_formed}
use Rattle.geo_lowering.specs.declared.version.Version.TheVariants.{Two}
use Rattle.log_checker.proofs.DueProblems.{about}
use Rattle.log_checker.proofs.LineFeeds.{program_one_line}
use Rattle.geo_chain.specs.FirstLines.{program_lines}
use Rattle.geo_chain.specs.declared.frame.Frame.TheVariants.{Full}
use Rattle.geo_chain.specs.declared.size.Size.{Size}
use Rattle.geo_chain.specs.Parts.{items_of, log_part}
use Rattle.geo_chain.specs.Sizes.{IsSizeAfter}
use Rattle.geo_chain.specs.Tasks.{conditions_from}
use Rattle.geo_chain.specs.Written.{state}
use Rattle.geo_chain.proofs.Passing.{can_write_on}
use Rattle.geo_chain.proofs.WholeLogs.{past_program}
use Rattle.geo_discover.specs.Inner.Sharing.{AreWorked}
use Rattle.geo_discover.proofs.ConditionsShared.{lines_before}
use Rattle.geo_discover.proofs.OwnLogs.{can_write, ready, subject_with}
use Rattle.geo_discover.proofs.figure.conditions_of.Goals as goal

pub conditions_behind-requires-clause-ready : goal.conditions_behind-requires-clause-ready
conditions_behind-requires-clause-ready c =
    ready (source_of c.args.candidate.now) c.args.problem.now (program_well_formed c.args.candidate.now) c.requires.problem

pub conditions_behind-requires-clause-writable : goal.conditions_behind-requires-clause-writable
conditions_behind-requires-clause-writable c =
    let q = source_of c.args.candidate.now in
    let problem = c.args.problem.now in
    let w = program_well_formed c.args.candidate.now in
    let small : c.args.steps < 2 ^ 127 = omega (arith, c.ranges.steps) in
    let own = about Two q problem c.requires.problem in
    let xs = items_of problem.steps.nodes problem.conditions in
    let ys = items_of problem.steps.nodes problem.goals in
    let s = state c.new-log.result (Some c.new-front.result) 0 in
    let t = state c.write_first_lines.new.log (Some c.write_first_lines.new.sink) 0 in
    let subject = subject_with q problem.steps xs ys in
    can_write_on Full problem.steps (log_part Full subject c.args.steps) (conditions_from Full problem 0 [] [] c.args.steps) s t
    (past_program subject c.args.steps s t (c.in-Ok.ensures.ok (program_one_line q w)))
    (can_write q subject c.args.steps w small own c.new-log.result.size c.new-log.ensures.size)

pub conditions_behind-requires-clause-written : goal.conditions_behind-requires-clause-written
conditions_behind-requires-clause-written c =
    let q = source_of c.args.candidate.now in
    let clean = program_one_line q (program_well_formed c.args.candidate.now) in
    let n = text_length (program_lines q) in
    (0 + n, subst (λ (z : Size). IsSizeAfter z n c.write_first_lines.new.log.size) c.new-log.ensures.size (c.in-Ok.ensures.ok clean).measured)

pub returns-in-Ok-clause-worked : goal.returns-in-Ok-clause-worked
returns-in-Ok-clause-worked c =
    let q = source_of c.args.candidate.now in
    let problem = c.args.problem.now in
    let xs = items_of problem.steps.nodes problem.conditions in
    let ys = items_of problem.steps.nodes problem.goals in
    let s = state c.new-log.result (Some c.new-front.result) 0 in
    let t = state c.write_first_lines.new.log (Some c.write_first_lines.new.sink) 0 in
    subst (λ n. AreWorked problem.steps xs c.args.steps n c.conditions_behind.new.findings.known c.conditions_behind.new.findings.ends
    c.conditions_behind.result)
    (lines_before q problem.steps xs ys s t c.new-log.ensures.lines
    (c.in-Ok.ensures.ok (program_one_line q (program_well_formed c.args.candidate.now)))) c.conditions_behind.ensures.worked
