use Rattle.std.proofs.Common.{length}
use Rattle.geo_poly.proofs.replacement.+numerator_vars.Given as goal

abbrev pub decreases-numerator_vars : goal.decreases-numerator_vars
decreases-numerator_vars l = length l.rows.now
