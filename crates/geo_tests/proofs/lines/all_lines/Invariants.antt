use Rattle.std.proofs.Common.{◌≡◌, false}
use Rattle.geo_tests.proofs.lines.all_lines.Given as goal

abbrev pub invariant-loop : goal.invariant-loop
invariant-loop l = l.reader.ended ≡ false
