use Rattle.std.proofs.Common.{◌+◌, ◌-◌, ◌*◌}
use Rattle.geo_parser.proofs.reader.Reader.+expression.Given as goal

-- the fewer levels are left, the less; on one level each function calls those below it
abbrev pub decreases-two_parts : goal.decreases-two_parts
decreases-two_parts l = 5 * (130 - l.level) + 4

abbrev pub decreases-part : goal.decreases-part
decreases-part l = 5 * (130 - l.level) + 3

abbrev pub decreases-expression : goal.decreases-expression
decreases-expression l = 5 * (130 - l.level) + 2

abbrev pub decreases-node : goal.decreases-node
decreases-node l = 5 * (130 - l.level) + 1

abbrev pub decreases-formed : goal.decreases-formed
decreases-formed l = 5 * (130 - l.level)
