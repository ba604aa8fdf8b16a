use Rattle.std.proofs.Common.{ap}
use Rattle.geo_program.specs.Inner.Printing.{whole_scope}
use Rattle.geo_program.specs.Programs.{source_of}
use Rattle.geo_program.proofs.Propositions.{program_well_formed}
use Rattle.geo_library.proofs.PrintedImages.{sides_stored, statement_named}
use Rattle.geo_library.proofs.instances.cited_statement.Goals as goal

pub statement_text-requires-clause-arguments : goal.statement_text-requires-clause-arguments
statement_text-requires-clause-arguments c =
    let printer = c.in_ok-printer.printer in
    statement_named (source_of c.args.case.now) printer.names printer.terms.now (program_well_formed c.args.case.now) c.in_ok-printer.ensures.terms
    (ap whole_scope c.in_ok-printer.ensures.names)

pub statement_text-requires-clause-sides : goal.statement_text-requires-clause-sides
statement_text-requires-clause-sides c =
    let printer = c.in_ok-printer.printer in
    sides_stored (source_of c.args.case.now) printer.names printer.terms.now (program_well_formed c.args.case.now) c.in_ok-printer.ensures.terms
