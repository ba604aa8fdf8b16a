use Rattle.fraction_poly.proofs.numerators.+numerator.Given as goal

abbrev pub decreases-numerator : goal.decreases-numerator
decreases-numerator l = l.id.0
