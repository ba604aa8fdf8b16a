use Rattle.geo_program.specs.Programs.{source_of}
use Rattle.geo_discover.proofs.CandidateForms.{no_sides, printable_points}
use Rattle.geo_discover.proofs.found_lines.candidate_line.Goals as goal

pub statement_text-requires-clause-arguments : goal.statement_text-requires-clause-arguments
statement_text-requires-clause-arguments c =
    printable_points (source_of c.args.program.now) c.args.statement c.requires.candidate _ _ c.requires.names c.requires.terms

pub statement_text-requires-clause-sides : goal.statement_text-requires-clause-sides
statement_text-requires-clause-sides c = no_sides _ c.args.statement c.requires.candidate.relation
