use Rattle.geo_place.proofs.sketch.Sketch.+term.Given as goal

abbrev pub decreases-term : goal.decreases-term
decreases-term l = l.e.0
