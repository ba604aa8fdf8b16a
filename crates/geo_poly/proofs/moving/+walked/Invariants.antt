use Rattle.geo_poly.proofs.moving.+walked.Given as goal

abbrev pub decreases-walked : goal.decreases-walked
decreases-walked g l = l.id.0
