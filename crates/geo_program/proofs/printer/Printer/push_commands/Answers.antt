use Rattle.std.proofs.Common.{◌≡◌, ◌+◌, ◌++◌, List, drop, get_or, take, refl, sym, ap, subst, ◌∙◌, arith}
use Rattle.std.specs.List.{AllByRecursion}
use Rattle.geo_program.specs.declared.commands.Command.TheVariants.{Point}
use Rattle.geo_program.specs.declared.names.Name.{Name}
use Rattle.geo_program.specs.CanonicalText.{command_lexemes, line_text}
use Rattle.geo_program.specs.Forms.{command_form}
use Rattle.geo_program.specs.Inner.Printing.{whole_scope}
use Rattle.geo_program.specs.WellFormed.{IsArgument, later_names, own_names}
use Rattle.geo_program.proofs.CommandLines.{AreLeft, AreLeft-first, arguments_declared, lines_left, name_within, next_command, next_left, written_all, written_next}
use Rattle.geo_program.proofs.printer.Printer.push_commands.Goals as goal

pub loop-command-init : goal.loop-command-init
loop-command-init c = record { text = refl; left = AreLeft-first c.args.self.now.terms.now c.args.names.now c.args.commands.now c.requires.commands }

pub split_at-requires : goal.split_at-requires
split_at-requires c =
    let nodes = c.args.self.now.terms.now in
    let left = c.loop-command.invariant.left in
    omega (arith, name_within c.args.names.now nodes c.loop-command.left.now c.args.commands.now c.loop-command.command-index Point left c.loop-command-test.true, c.name_count.ensures nodes)

pub push_command-requires-clause-arguments : goal.push_command-requires-clause-arguments
push_command-requires-clause-arguments c =
    let nodes = c.args.self.now.terms.now in
    let names = c.args.names.now in
    let command = get_or c.args.commands.now c.loop-command.command-index Point in
    subst (λ (all : List Name). AllByRecursion (IsArgument (whole_scope all)) (command_form nodes command).arguments) (sym c.requires.names)
    (arguments_declared names nodes c.loop-command.left.now c.args.commands.now c.loop-command.command-index Point c.loop-command.invariant.left c.loop-command-test.true)

pub push_command-requires-clause-stored : goal.push_command-requires-clause-stored
push_command-requires-clause-stored c =
    (next_command c.args.names.now c.args.self.now.terms.now c.loop-command.left.now c.args.commands.now c.loop-command.command-index Point
    c.loop-command.invariant.left c.loop-command-test.true).stored

pub loop-command-preserved : goal.loop-command-preserved
loop-command-preserved c =
    let nodes = c.args.self.now.terms.now in
    let names = c.args.names.now in
    let commands = c.args.commands.now in
    let i = c.loop-command.command-index in
    let command = get_or commands i Point in
    let form = command_form nodes command in
    let left = c.loop-command.left.now in
    let own : c.split_at.result.0.now ≡ own_names form left = c.split_at.ensures.front ∙ ap (λ n. take n left) (c.name_count.ensures nodes) in
    let later : c.split_at.result.1.now ≡ later_names form left = c.split_at.ensures.back ∙ ap (λ n. drop n left) (c.name_count.ensures nodes) in
    let line = c.in_ok-push_command.ensures
    ∙ ap (λ (all : List Name). c.loop-command.out.items ++ line_text (command_lexemes all nodes c.split_at.result.0.now command)) c.requires.names
    ∙ ap (λ (mine : List Name). c.loop-command.out.items ++ line_text (command_lexemes names nodes mine command)) own in
    record {
      text = written_next names nodes left commands i Point c.loop-command.invariant.left c.loop-command-test.true _ _ _ _
          c.split_at.result.1.now later c.loop-command.invariant.text line c.in_ok-push.ensures.items;
      left = subst (λ (ns : List Name). AreLeft names nodes ns (drop (i + 1) commands)) (sym later)
          (next_left names nodes left commands i Point c.loop-command.invariant.left c.loop-command-test.true);
    }

pub returns : goal.returns
returns c = written_all c.args.names.now c.args.self.now.terms.now c.loop-command.left.now c.args.commands.now c.loop-command.command-index _ _ c.loop-command-test.false c.loop-command.invariant.text
