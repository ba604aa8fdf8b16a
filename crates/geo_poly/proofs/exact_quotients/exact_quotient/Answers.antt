use Rattle.std.proofs.Common.{of_z, ap, ap₂, ◌∙◌}
use Rattle.std.specs.Int.{w128}
use Rattle.std.specs.Int.RustNames.{int_rem}
use Rattle.std.proofs.lemmas.Int.{to_z-of_z}
use Rattle.geo_poly.proofs.ExactQuotient.{bits_positive, quotient_fits, no_remainder}
use Rattle.geo_poly.proofs.exact_quotients.exact_quotient.Goals as goal

pub nonzero_rem-c : goal.nonzero_rem-c
nonzero_rem-c c =
    (bits_positive c.args.d c.ranges.d c.requires.nonzero, quotient_fits c.args.c c.args.d c.ranges.c c.ranges.d c.requires.fits)

pub returns-else-c-d-eq0-clause-none : goal.returns-else-c-d-eq0-clause-none
returns-else-c-d-eq0-clause-none c = λ q e.
    c.if-c-d-eq0.false
    (ap (of_z w128) (ap₂ int_rem (to_z-of_z w128 c.args.c c.ranges.c) (to_z-of_z w128 c.args.d c.ranges.d) ∙ no_remainder c.args.c c.args.d q c.requires.nonzero e))
