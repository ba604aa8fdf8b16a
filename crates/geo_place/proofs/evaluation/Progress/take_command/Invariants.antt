use Rattle.geo_place.proofs.evaluation.Progress.take_command.Given as goal

abbrev pub ghost-make_points : goal.ghost-make_points
ghost-make_points g a = g.run
