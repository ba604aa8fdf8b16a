use Rattle.geo_sample.proofs.uncounted.values_hold_uncounted.Given as goal

abbrev pub ghosts-values_hold_in : goal.ghosts-values_hold_in
ghosts-values_hold_in a = record { name = a.blank.name; parts = a.blank.parts }
