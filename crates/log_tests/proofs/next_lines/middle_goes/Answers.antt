use Rattle.std.proofs.Common.{subst, sym}
use Rattle.fraction_poly.specs.TableRows.{HasPointsBelow}
use Rattle.geo_poly.specs.PolynomialVariables.{AllVariables}
use Rattle.log_tests.proofs.next_lines.middle_goes.Goals as goal

pub next_line-requires : goal.next_line-requires
next_line-requires c = subst (λ n. AllVariables (HasPointsBelow n) c.in_ok-start.start) (sym c.in_ok-steps.ensures) c.in_ok-start.ensures
