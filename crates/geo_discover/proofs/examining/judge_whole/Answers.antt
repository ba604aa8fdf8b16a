use Rattle.std.proofs.Common.{◌<◌, ◌^◌, Some, [], refl, sym, subst, arith}
use Rattle.std.proofs.lemmas.Result.{IfOk-weaker}
use Rattle.geo_lowering.specs.declared.version.Version.TheVariants.{Two}
use Rattle.geo_program.specs.Programs.{source_of}
use Rattle.geo_program.proofs.Propositions.{program_well_formed}
use Rattle.log_checker.proofs.DueProblems.{about}
use Rattle.log_checker.proofs.LineFeeds.{program_one_line}
use Rattle.geo_chain.specs.declared.frame.Frame.TheVariants.{Full}
use Rattle.geo_chain.specs.FirstLines.{IsBrokenOffAmong, program_lines}
use Rattle.geo_chain.specs.Parts.{items_of, log_part}
use Rattle.geo_chain.specs.Tasks.{conditions_from}
use Rattle.geo_chain.specs.Written.{State, state}
use Rattle.geo_chain.proofs.Passing.{can_write_on}
use Rattle.geo_chain.proofs.WholeLogs.{past_program}
use Rattle.geo_discover.specs.Inner.Searching.{IsJudged}
use Rattle.geo_discover.proofs.ConditionsShared.{begun_new}
use Rattle.geo_discover.proofs.OwnLogs.{can_write, ready, subject_with}
use Rattle.geo_discover.proofs.Sharing.{chains_judged, first_judged}
use Rattle.geo_discover.proofs.examining.judge_whole.Goals as goal

pub with_statement-requires-clause-relation : goal.with_statement-requires-clause-relation
with_statement-requires-clause-relation c = c.requires.candidate.relation

pub with_statement-requires-clause-points : goal.with_statement-requires-clause-points
with_statement-requires-clause-points c = c.requires.candidate.points

pub judge_chains-requires-clause-ready : goal.judge_chains-requires-clause-ready
judge_chains-requires-clause-ready c =
    ready (source_of c.in_ok-candidate.candidate) c.in_ok-problem.problem (program_well_formed c.in_ok-candidate.candidate) c.in_ok-problem.ensures

pub judge_chains-requires-clause-writable : goal.judge_chains-requires-clause-writable
judge_chains-requires-clause-writable c =
    let q = source_of c.in_ok-candidate.candidate in
    let problem = c.in_ok-problem.problem in
    let w = program_well_formed c.in_ok-candidate.candidate in
    let small : c.args.steps < 2 ^ 127 = omega (arith, c.ranges.steps) in
    let subject = subject_with q problem.steps (items_of problem.steps.nodes problem.conditions) (items_of problem.steps.nodes problem.goals) in
    let s = state c.new-log.result (Some c.new-text.result) 0 in
    let t = state c.write_first_lines.new.log (Some c.write_first_lines.new.sink) 0 in
    can_write_on Full problem.steps (log_part Full subject c.args.steps) (conditions_from Full problem 0 [] [] c.args.steps) s t
    (past_program subject c.args.steps s t (c.in-Ok.ensures.ok (program_one_line q w)))
    (can_write q subject c.args.steps w small (about Two q problem c.in_ok-problem.ensures) c.new-log.result.size c.new-log.ensures.size)

pub returns-in-Ok : goal.returns-in-Ok
returns-in-Ok c =
    let q = source_of c.in_ok-candidate.candidate in
    let w = program_well_formed c.in_ok-candidate.candidate in
    let small : c.args.steps < 2 ^ 127 = omega (arith, c.ranges.steps) in
    let t = state c.write_first_lines.new.log (Some c.write_first_lines.new.sink) 0 in
    let begun = begun_new (program_lines q) c.new-log.result.lines c.new-log.result.size c.new-text.result t c.new-log.ensures.lines
    c.new-log.ensures.size c.new-text.ensures (c.in-Ok.ensures.ok (program_one_line q w)) in
    IfOk-weaker c.judge_chains.result _ _
    (λ j said. chains_judged (source_of c.args.program.now) c.args.statement q c.in_ok-candidate.ensures c.in_ok-problem.problem c.args.steps w
    small c.in_ok-problem.ensures t j begun said)
    c.judge_chains.ensures

pub returns : goal.returns
returns c =
    let q = source_of c.in_ok-candidate.candidate in
    let w = program_well_formed c.in_ok-candidate.candidate in
    let t = state c.write_first_lines.new.log (Some c.write_first_lines.new.sink) 0 in
    let broken =
    subst (λ (s : State). IsBrokenOffAmong (program_lines q) s t c.in-Err.error)
    (λ i. record { lines = c.new-log.ensures.lines i; size = c.new-log.ensures.size i; held = Some (c.new-text.ensures i); faults = 0 })
    (c.in-Err.ensures.err (program_one_line q w)) in
    IfOk-weaker c.opened.result _ _
    (λ j h. subst (IsJudged (source_of c.args.program.now) c.args.steps c.args.statement) (sym h.0)
    (first_judged (source_of c.args.program.now) c.args.statement q c.in_ok-candidate.ensures c.in_ok-problem.problem c.args.steps w
    (omega (arith, c.ranges.steps)) c.in_ok-problem.ensures t c.in-Err.error refl h.1 broken))
    c.opened.ensures
