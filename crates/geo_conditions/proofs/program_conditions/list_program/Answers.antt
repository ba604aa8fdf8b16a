use Rattle.geo_conditions.specs.Statements.{statement_conditions}
use Rattle.geo_conditions.proofs.CommandsListed.{listed_conditions}
use Rattle.geo_conditions.proofs.program_conditions.list_program.Goals as goal

pub returns-clause-conditions : goal.returns-clause-conditions
returns-clause-conditions c =
    let nodes = c.args.terms.now in
    λ names.
    listed_conditions nodes c.new-list.result c.list_commands.new.self c.list_statement.new.self c.args.commands.now (statement_conditions nodes c.args.statement) c.new-list.ensures.items
    c.in_ok-list_commands.ensures c.in_ok-list_statement.ensures
