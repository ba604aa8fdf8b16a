use Rattle.std.proofs.Common.{length}
use Rattle.geo_cli.proofs.ValueLines.{IsRead}
use Rattle.geo_cli.proofs.values.split_values.Given as goal

-- how far the line is read
abbrev pub invariant-loop-text : goal.invariant-loop-text
invariant-loop-text l = IsRead l.bytes l.items.items l.rest

abbrev pub decreases-loop-text : goal.decreases-loop-text
decreases-loop-text l = length l.rest
