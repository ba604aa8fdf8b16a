use Rattle.std.proofs.Common.{subst, sym, ap, ◌∙◌, ◌++◌}
use Rattle.std.specs.List.{AllByRecursion, flat_map}
use Rattle.geo_program.specs.declared.commands.Command.{Command}
use Rattle.geo_program.specs.Forms.{IsStored, command_form}
use Rattle.geo_program.specs.CanonicalText.{argument_lexemes}
use Rattle.geo_program.specs.Inner.Printing.{whole_scope, spaced_text}
use Rattle.geo_program.specs.WellFormed.{IsArgument}
use Rattle.geo_program.proofs.Spacing.{appends_none}
use Rattle.geo_program.proofs.TermLemmas.{number_printable}
use Rattle.geo_program.proofs.printer.Printer.push_arguments.Goals as goal

pub push_numbered-requires-clause-number : goal.push_numbered-requires-clause-number
push_numbered-requires-clause-number c =
    let names = c.args.self.now.names in
    let nodes = c.args.self.now.terms.now in
    let stored = subst (λ (command : Command). IsStored nodes command) c.in-Pratio.is c.requires.stored in
    let arguments = subst (λ (command : Command). AllByRecursion (IsArgument (whole_scope names)) (command_form nodes command).arguments) c.in-Pratio.is c.requires.arguments in
    number_printable names nodes c.in-Pratio.r c.requires.store stored arguments.1.1.1.0

pub push_numbered-requires-in-Tratio-clause-number : goal.push_numbered-requires-in-Tratio-clause-number
push_numbered-requires-in-Tratio-clause-number c =
    let names = c.args.self.now.names in
    let nodes = c.args.self.now.terms.now in
    let stored = subst (λ (command : Command). IsStored nodes command) c.in-Tratio.is c.requires.stored in
    let arguments = subst (λ (command : Command). AllByRecursion (IsArgument (whole_scope names)) (command_form nodes command).arguments) c.in-Tratio.is c.requires.arguments in
    number_printable names nodes c.in-Tratio.r c.requires.store stored arguments.1.1.0

pub push_numbered-requires-in-Lratio-clause-number : goal.push_numbered-requires-in-Lratio-clause-number
push_numbered-requires-in-Lratio-clause-number c =
    let names = c.args.self.now.names in
    let nodes = c.args.self.now.terms.now in
    let stored = subst (λ (command : Command). IsStored nodes command) c.in-Lratio.is c.requires.stored in
    let arguments = subst (λ (command : Command). AllByRecursion (IsArgument (whole_scope names)) (command_form nodes command).arguments) c.in-Lratio.is c.requires.arguments in
    number_printable names nodes c.in-Lratio.r c.requires.store stored arguments.1.1.0

pub push_weights-requires-clause-r : goal.push_weights-requires-clause-r
push_weights-requires-clause-r c =
    let names = c.args.self.now.names in
    let nodes = c.args.self.now.terms.now in
    let stored = subst (λ (command : Command). IsStored nodes command) c.in-Weights.is c.requires.stored in
    let arguments = subst (λ (command : Command). AllByRecursion (IsArgument (whole_scope names)) (command_form nodes command).arguments) c.in-Weights.is c.requires.arguments in
    number_printable names nodes c.in-Weights.r c.requires.store stored.0 arguments.1.1.1.0

pub push_weights-requires-clause-s : goal.push_weights-requires-clause-s
push_weights-requires-clause-s c =
    let names = c.args.self.now.names in
    let nodes = c.args.self.now.terms.now in
    let stored = subst (λ (command : Command). IsStored nodes command) c.in-Weights.is c.requires.stored in
    let arguments = subst (λ (command : Command). AllByRecursion (IsArgument (whole_scope names)) (command_form nodes command).arguments) c.in-Weights.is c.requires.arguments in
    number_printable names nodes c.in-Weights.s c.requires.store stored.1 arguments.1.1.1.1.0

pub returns-in-Point : goal.returns-in-Point
returns-in-Point c =
    (appends_none c.args.out.now.items).is
    ∙ ap (λ command. c.args.out.now.items ++ spaced_text (flat_map (argument_lexemes c.args.self.now.names) (command_form c.args.self.now.terms.now command).arguments)) (sym c.in-Point.is)

pub returns-in-Param : goal.returns-in-Param
returns-in-Param c =
    (appends_none c.args.out.now.items).is
    ∙ ap (λ command. c.args.out.now.items ++ spaced_text (flat_map (argument_lexemes c.args.self.now.names) (command_form c.args.self.now.terms.now command).arguments)) (sym c.in-Param.is)
