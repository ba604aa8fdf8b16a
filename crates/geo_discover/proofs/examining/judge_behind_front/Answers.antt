use Rattle.std.proofs.Common.{◌≡◌, ◌+◌, List, [], ◌∷◌, ◌++◌, length, map, refl, ap, subst, arith, rules}
use Rattle.std.proofs.lemmas.Option.{IfSome_then}
use Rattle.geo_conditions.specs.Lists.{goal_item}
use Rattle.geo_conditions.specs.Problems.{form_of_problem}
use Rattle.geo_logs.specs.Ends.{text_length}
use Rattle.geo_lowering.specs.declared.version.Version.TheVariants.{Two}
use Rattle.geo_program.specs.Programs.{source_of}
use Rattle.geo_program.specs.Relations.{with_statement}
use Rattle.geo_program.proofs.Propositions.{program_well_formed}
use Rattle.proof_log.specs.Lines.{log_text}
use Rattle.log_checker.specs.Subjects.{log_item}
use Rattle.geo_chain.specs.FirstLines.{program_lines}
use Rattle.geo_chain.specs.declared.size.Size.{Size}
use Rattle.geo_chain.specs.Parts.{items_of}
use Rattle.geo_discover.specs.declared.figure.Worked.{Worked}
use Rattle.geo_discover.specs.Inner.Sharing.{AreWorked}
use Rattle.geo_discover.proofs.CandidateForms.{candidate_formed}
use Rattle.geo_discover.proofs.ConditionsShared.{figure_kept}
use Rattle.geo_discover.proofs.Sharing.{goal_ready, goal_taken, lengths_judged, shared_about, stopped_judged}
use Rattle.geo_discover.proofs.examining.judge_behind_front.Goals as goal

pub judge_unwritten-requires-clause-ready : goal.judge_unwritten-requires-clause-ready
judge_unwritten-requires-clause-ready c =
    let p = source_of c.args.program.now in
    let s = c.args.statement in
    let f = c.args.figure.now in
    let h = c.requires.figure in
    let k = f.problem.steps in
    let xs = items_of k.nodes f.problem.conditions in
    let w = candidate_formed p s (program_well_formed c.args.program.now) c.requires.candidate in
    let goal = c.args.goal.now in
    let ys = items_of goal.terms.nodes goal.goals in
    let own = shared_about p h.first s (form_of_problem f.problem) f.problem.conditions f.problem.goals h.candidate c.requires.candidate
    h.problem ys (goal_taken p s c.args.goal.now.terms.nodes c.args.goal.now.goals c.requires.goal.item) in
    goal_ready (with_statement p s) k xs goal.terms.nodes goal.goals w own c.requires.goal.stored

pub returns-in_ok-log-in-Met-clause-judged : goal.returns-in_ok-log-in-Met-clause-judged
returns-in_ok-log-in-Met-clause-judged c =
    let p = source_of c.args.program.now in
    let s = c.args.statement in
    let f = c.args.figure.now in
    let h = c.requires.figure in
    let k = f.problem.steps in
    let xs = items_of k.nodes f.problem.conditions in
    let w = candidate_formed p s (program_well_formed c.args.program.now) c.requires.candidate in
    let goal = c.args.goal.now in
    let ys = items_of goal.terms.nodes goal.goals in
    let own = shared_about p h.first s (form_of_problem f.problem) f.problem.conditions f.problem.goals h.candidate c.requires.candidate
    h.problem ys (goal_taken p s c.args.goal.now.terms.nodes c.args.goal.now.goals c.requires.goal.item) in
    let told = subst (λ (x : Worked). AreWorked k xs f.steps (length p.commands + 2) f.findings.known f.findings.ends x) c.in-Met.is h.worked in
    let front = program_lines (with_statement p s) in
    let text = c.in-Met.text in
    let most = c.requires.front in
    let lines : c.in_ok-log-in-Met.log.lines ≡ (length p.commands + 2) + c.in-Met.lines = search rules in
    let size : c.in_ok-log-in-Met.log.size ≡ Size.Bounded (c.args.front + length text) = search rules in
    IfSome_then c.judge_unwritten.result
    (c.judge_unwritten.ensures.said (Size.Written (text_length front + length text)) (log_text front ++ text) (c.args.front + length text)
    size (omega (arith, most)))
    (λ judgement said. lengths_judged p s k xs ys f.steps w h.small own f.findings.known f.findings.ends text c.in-Met.lines c.in-Met.left
    c.in_ok-log-in-Met.log.lines judgement (told.1 ys) lines said)

pub returns-in_ok-log-in-Met-clause-figure : goal.returns-in_ok-log-in-Met-clause-figure
returns-in_ok-log-in-Met-clause-figure c =
    figure_kept (source_of c.args.program.now) c.args.figure.now c.judge_unwritten.new.numbers c.judge_unwritten.new.findings c.requires.figure
    c.judge_unwritten.ensures.known c.judge_unwritten.ensures.ends c.judge_unwritten.ensures.numbers

pub returns-in-Some-clause-judged : goal.returns-in-Some-clause-judged
returns-in-Some-clause-judged c =
    let p = source_of c.args.program.now in
    let s = c.args.statement in
    let f = c.args.figure.now in
    let h = c.requires.figure in
    let k = f.problem.steps in
    let xs = items_of k.nodes f.problem.conditions in
    let w = candidate_formed p s (program_well_formed c.args.program.now) c.requires.candidate in
    let ys = log_item (goal_item Two p s) ∷ [] in
    let own = shared_about p h.first s (form_of_problem f.problem) f.problem.conditions f.problem.goals h.candidate c.requires.candidate
    h.problem ys refl in
    let told = subst (λ (x : Worked). AreWorked k xs f.steps (length p.commands + 2) f.findings.known f.findings.ends x) c.in-Stopped.is
    h.worked in
    let most = c.requires.front in
    let sum = c.in-Some.ensures.sum in
    let fits = c.in-Some.ensures.fits in
    stopped_judged p s k xs ys f.steps w h.small own c.in-Stopped.bytes _ (omega (arith, most, sum, fits)) refl c.in-Stopped.error (told ys)
