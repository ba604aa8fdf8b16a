use Rattle.std.proofs.Common.{Some, [], subst}
use Rattle.geo_program.specs.Programs.{source_of}
use Rattle.geo_program.specs.WellFormed.{Source}
use Rattle.geo_program.proofs.Propositions.{program_well_formed}
use Rattle.log_checker.proofs.LineFeeds.{program_one_line}
use Rattle.geo_chain.specs.FirstLines.{program_lines}
use Rattle.geo_chain.specs.Written.{Writes, first_state, state}
use Rattle.geo_discover.proofs.ConditionsShared.{begun_new}
use Rattle.geo_discover.proofs.examining.judge_shared.Goals as goal

pub with_statement-requires-clause-relation : goal.with_statement-requires-clause-relation
with_statement-requires-clause-relation c = c.requires.candidate.relation

pub with_statement-requires-clause-points : goal.with_statement-requires-clause-points
with_statement-requires-clause-points c = c.requires.candidate.points

pub judge_behind-requires-clause-first : goal.judge_behind-requires-clause-first
judge_behind-requires-clause-first c =
    let t = state c.write_first_lines.new.log (Some c.write_first_lines.new.sink) 0 in
    subst (λ (x : Source). Writes (program_lines x) (first_state (Some []) 0) t) c.in_ok-candidate.ensures
    (begun_new (program_lines (source_of c.in_ok-candidate.candidate)) c.new-log.result.lines c.new-log.result.size c.new-text.result t
    c.new-log.ensures.lines c.new-log.ensures.size c.new-text.ensures
    (c.in-Ok.ensures.ok (program_one_line (source_of c.in_ok-candidate.candidate) (program_well_formed c.in_ok-candidate.candidate))))
