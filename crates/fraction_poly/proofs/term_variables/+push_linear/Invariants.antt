use Rattle.fraction_poly.proofs.term_variables.+push_linear.Given as goal

abbrev pub decreases-push_linear : goal.decreases-push_linear
decreases-push_linear l = l.depth
