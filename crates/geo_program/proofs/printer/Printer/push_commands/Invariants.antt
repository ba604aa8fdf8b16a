use Rattle.std.proofs.Common.{◌≡◌, ◌++◌, drop}
use Rattle.geo_program.proofs.CommandLines.{AreLeft, lines_left}
use Rattle.geo_program.proofs.printer.Printer.push_commands.Given as goal

-- the lines so far, and then those of the commands that are left
abbrev pub invariant-loop-command : goal.invariant-loop-command
invariant-loop-command l = record {
  text : l.out.items ++ lines_left l.names l.self.terms.now l.left (drop l.command-index l.commands)
      ≡ l.fn.out.items ++ lines_left l.names l.self.terms.now l.names l.commands;
  left : AreLeft l.names l.self.terms.now l.left (drop l.command-index l.commands);
}
