use Rattle.std.proofs.Common.{length}
use Rattle.geo_parser.specs.Inner.Reads.{ReadsCommands}
use Rattle.geo_parser.proofs.reader.Reader.commands.Given as goal

-- the commands so far stand there, and the next one is due
abbrev pub invariant-loop-items : goal.invariant-loop-items
invariant-loop-items l = ReadsCommands l.initial.self l.self l.items.items

abbrev pub decreases-loop-items : goal.decreases-loop-items
decreases-loop-items l = length l.self.cursor.tokens
