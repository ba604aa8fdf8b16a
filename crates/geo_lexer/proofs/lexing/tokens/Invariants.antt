use Rattle.std.proofs.Common.{◌≤◌, ◌-◌, length}
use Rattle.geo_lexer.specs.Tokens.{AreTokens}
use Rattle.geo_lexer.proofs.lexing.tokens.Given as goal

abbrev pub invariant-loop-start : goal.invariant-loop-start
invariant-loop-start l = record {
  within : l.end ≤ length l.bytes;
  tokens : AreTokens l.bytes 0 l.items.items l.end;
}

abbrev pub decreases-loop-start : goal.decreases-loop-start
decreases-loop-start l = length l.bytes - l.end
