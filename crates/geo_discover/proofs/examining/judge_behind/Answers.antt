use Rattle.std.proofs.Common.{◌+◌, ◌∙◌, Some, List, [], ◌∷◌, length, map, refl, ap, subst, rules}
use Rattle.geo_conditions.specs.Lists.{goal_item}
use Rattle.geo_conditions.specs.Problems.{form_of_problem}
use Rattle.geo_lowering.specs.declared.version.Version.TheVariants.{Two}
use Rattle.geo_program.specs.Programs.{source_of}
use Rattle.geo_program.specs.Relations.{with_statement}
use Rattle.geo_program.proofs.Propositions.{program_well_formed}
use Rattle.log_checker.specs.Subjects.{log_item}
use Rattle.geo_chain.specs.declared.frame.Frame.TheVariants.{Full}
use Rattle.geo_chain.specs.Parts.{goals_part, items_of}
use Rattle.geo_chain.specs.Sizes.{Fits, with_text}
use Rattle.geo_chain.specs.Written.{first_state, state}
use Rattle.geo_discover.specs.declared.figure.Worked.{Worked}
use Rattle.geo_discover.specs.Inner.Sharing.{AreWorked}
use Rattle.geo_discover.proofs.CandidateForms.{candidate_formed}
use Rattle.geo_discover.proofs.ConditionsShared.{figure_kept}
use Rattle.geo_discover.proofs.Sharing.{goal_ready, goal_taken, goal_writable, past_conditions, said_judged, shared_about, stopped_judged}
use Rattle.geo_discover.proofs.examining.judge_behind.Goals as goal

pub judge_written-requires-clause-ready : goal.judge_written-requires-clause-ready
judge_written-requires-clause-ready c =
    let p = source_of c.args.program.now in
    let s = c.args.statement in
    let f = c.args.figure.now in
    let h = c.requires.figure in
    let k = f.problem.steps in
    let xs = items_of k.nodes f.problem.conditions in
    let w = candidate_formed p s (program_well_formed c.args.program.now) c.requires.candidate in
    let goal = c.args.goal.now in
    let ys = items_of goal.terms.nodes goal.goals in
    let own = shared_about p h.first s (form_of_problem f.problem) f.problem.conditions f.problem.goals h.candidate c.requires.candidate
    h.problem ys (goal_taken p s c.args.goal.now.terms.nodes c.args.goal.now.goals c.requires.goal.item) in
    goal_ready (with_statement p s) k xs goal.terms.nodes goal.goals w own c.requires.goal.stored

pub judge_written-requires-clause-writable : goal.judge_written-requires-clause-writable
judge_written-requires-clause-writable c =
    let p = source_of c.args.program.now in
    let s = c.args.statement in
    let f = c.args.figure.now in
    let h = c.requires.figure in
    let k = f.problem.steps in
    let xs = items_of k.nodes f.problem.conditions in
    let w = candidate_formed p s (program_well_formed c.args.program.now) c.requires.candidate in
    let goal = c.args.goal.now in
    let ys = items_of goal.terms.nodes goal.goals in
    let own = shared_about p h.first s (form_of_problem f.problem) f.problem.conditions f.problem.goals h.candidate c.requires.candidate
    h.problem ys (goal_taken p s c.args.goal.now.terms.nodes c.args.goal.now.goals c.requires.goal.item) in
    let told = subst (λ (x : Worked). AreWorked k xs f.steps (length p.commands + 2) f.findings.known f.findings.ends x) c.in-Met.is h.worked in
    let r = first_state (Some []) 0 in
    let u = state c.write_again.new.self (Some c.write_again.new.sink) 0 in
    let part = goals_part Full k f.findings.known f.findings.ends 1 c.in-Met.left ys in
    let passed = past_conditions p s k xs ys f.steps w h.small own f.findings.known f.findings.ends c.in-Met.again c.in-Met.lines c.in-Met.left
    r (state c.args.log (Some c.args.text) 0) u c.requires.first (told.1 ys)
    (λ lines a b. c.in-Ok.ensures.ok lines (c.bytes.ensures ∙ a) b) in
    goal_writable p s k xs ys f.steps w h.small own part r u refl passed

pub returns-in_ok-judgement-in-Ok-clause-judged : goal.returns-in_ok-judgement-in-Ok-clause-judged
returns-in_ok-judgement-in-Ok-clause-judged c =
    let p = source_of c.args.program.now in
    let s = c.args.statement in
    let f = c.args.figure.now in
    let h = c.requires.figure in
    let k = f.problem.steps in
    let xs = items_of k.nodes f.problem.conditions in
    let w = candidate_formed p s (program_well_formed c.args.program.now) c.requires.candidate in
    let goal = c.args.goal.now in
    let ys = items_of goal.terms.nodes goal.goals in
    let own = shared_about p h.first s (form_of_problem f.problem) f.problem.conditions f.problem.goals h.candidate c.requires.candidate
    h.problem ys (goal_taken p s c.args.goal.now.terms.nodes c.args.goal.now.goals c.requires.goal.item) in
    let told = subst (λ (x : Worked). AreWorked k xs f.steps (length p.commands + 2) f.findings.known f.findings.ends x) c.in-Met.is h.worked in
    let r = first_state (Some []) 0 in
    let u = state c.write_again.new.self (Some c.write_again.new.sink) 0 in
    let part = goals_part Full k f.findings.known f.findings.ends 1 c.in-Met.left ys in
    let passed = past_conditions p s k xs ys f.steps w h.small own f.findings.known f.findings.ends c.in-Met.again c.in-Met.lines c.in-Met.left
    r (state c.args.log (Some c.args.text) 0) u c.requires.first (told.1 ys)
    (λ lines a b. c.in-Ok.ensures.ok lines (c.bytes.ensures ∙ a) b) in
    said_judged p s k xs ys f.steps w h.small own r refl refl refl refl part u c.in_ok-judgement-in-Ok.judgement passed refl
    c.in_ok-judgement-in-Ok.ensures.said

pub returns-in_ok-judgement-in-Ok-clause-figure : goal.returns-in_ok-judgement-in-Ok-clause-figure
returns-in_ok-judgement-in-Ok-clause-figure c =
    figure_kept (source_of c.args.program.now) c.args.figure.now c.judge_written.new.numbers c.judge_written.new.findings c.requires.figure
    c.judge_written.ensures.known c.judge_written.ensures.ends c.judge_written.ensures.numbers

pub returns-in-Stopped-clause-judged : goal.returns-in-Stopped-clause-judged
returns-in-Stopped-clause-judged c =
    let p = source_of c.args.program.now in
    let s = c.args.statement in
    let f = c.args.figure.now in
    let h = c.requires.figure in
    let k = f.problem.steps in
    let xs = items_of k.nodes f.problem.conditions in
    let w = candidate_formed p s (program_well_formed c.args.program.now) c.requires.candidate in
    let ys = log_item (goal_item Two p s) ∷ [] in
    let own = shared_about p h.first s (form_of_problem f.problem) f.problem.conditions f.problem.goals h.candidate c.requires.candidate
    h.problem ys refl in
    let told = subst (λ (x : Worked). AreWorked k xs f.steps (length p.commands + 2) f.findings.known f.findings.ends x) c.in-Stopped.is
    h.worked in
    let room : Fits (with_text c.args.log.size c.in-Stopped.bytes) = search rules in
    stopped_judged p s k xs ys f.steps w h.small own c.in-Stopped.bytes c.args.log.size room c.requires.first.measured c.in-Stopped.error
    (told ys)
