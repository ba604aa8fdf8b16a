use Rattle.geo_sample.proofs.uncounted.least_sample_uncounted.Given as goal

abbrev pub ghosts-least_sample_in : goal.ghosts-least_sample_in
ghosts-least_sample_in a = record { name = a.blank.name; parts = a.blank.parts }
