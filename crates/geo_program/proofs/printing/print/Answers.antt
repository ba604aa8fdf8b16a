use Rattle.std.proofs.Common.{sym, subst, subst₂, ◌∙◌}
use Rattle.std.specs.List.{AllByRecursion}
use Rattle.std.specs.Prelude.{List}
use Rattle.std.proofs.lemmas.List.Elements.{recursion_from_All}
use Rattle.geo_program.specs.declared.commands.Command.{Command}
use Rattle.geo_program.specs.declared.names.Name.{Name}
use Rattle.geo_program.specs.Forms.{statement_form}
use Rattle.geo_program.specs.Inner.Printing.{whole_scope}
use Rattle.geo_program.specs.WellFormed.{AreCommands, IsArgument, empty_scope}
use Rattle.geo_program.proofs.Propositions.{program_well_formed}
use Rattle.geo_program.proofs.printing.print.Goals as goal

pub push_commands-requires-clause-commands : goal.push_commands-requires-clause-commands
push_commands-requires-clause-commands c =
    let nodes = c.args.program.now.terms in
    subst₂ (λ (names : List Name) (commands : List Command). AreCommands nodes empty_scope names commands)
    (sym c.as_slice-names.ensures) (sym c.as_slice-commands.ensures) (program_well_formed c.args.program.now).commands

pub push_statement-requires-clause-arguments : goal.push_statement-requires-clause-arguments
push_statement-requires-clause-arguments c =
    let p = c.args.program.now in
    let arguments = (statement_form p.terms p.statement).arguments in
    subst (λ (names : List Name). AllByRecursion (IsArgument (whole_scope names)) arguments) (sym (c.in_ok-new.ensures ∙ c.as_slice-names.ensures))
    (recursion_from_All (IsArgument (whole_scope p.names)) arguments (program_well_formed p).statement)

pub push_statement-requires-clause-sides : goal.push_statement-requires-clause-sides
push_statement-requires-clause-sides c = (program_well_formed c.args.program.now).sides
