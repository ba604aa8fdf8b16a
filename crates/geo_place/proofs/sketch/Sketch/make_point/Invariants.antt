use Rattle.geo_place.proofs.sketch.Sketch.make_point.Given as goal

abbrev pub ghost-next_position : goal.ghost-next_position
ghost-next_position g a = g.run
