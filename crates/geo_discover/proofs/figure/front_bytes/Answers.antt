use Rattle.std.proofs.Common.{List, Some, ℕ, length, ◌∙◌, ap}
use Rattle.geo_program.specs.Programs.{source_of}
use Rattle.geo_program.proofs.Propositions.{program_well_formed}
use Rattle.proof_log.specs.Lines.{log_text}
use Rattle.log_checker.proofs.LineFeeds.{program_one_line}
use Rattle.geo_chain.specs.FirstLines.{program_lines}
use Rattle.geo_chain.specs.Written.{state}
use Rattle.geo_discover.proofs.ConditionsShared.{begun_new}
use Rattle.geo_discover.proofs.Judging.{held_is}
use Rattle.geo_discover.proofs.figure.front_bytes.Goals as goal

pub returns-in-Ok : goal.returns-in-Ok
returns-in-Ok c =
    let q = source_of c.args.candidate.now in
    let lines = program_lines q in
    let t = state c.write_first_lines.new.log (Some c.write_first_lines.new.sink) 0 in
    let begun = begun_new lines c.new-log.result.lines c.new-log.result.size c.new-text.result t c.new-log.ensures.lines c.new-log.ensures.size
    c.new-text.ensures (c.in-Ok.ensures.ok (program_one_line q (program_well_formed c.args.candidate.now))) in
    ap (λ (xs : List ℕ). length xs) (c.bytes.ensures ∙ held_is c.write_first_lines.new.sink (log_text lines) begun.written)
